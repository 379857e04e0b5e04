-- What the exported functions answer.
pub mod Finish
pub mod Converts
pub mod Chases
