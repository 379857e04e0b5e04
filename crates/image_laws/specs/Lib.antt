pub mod Parts
pub mod Held
