pub mod Opened
pub mod Room
pub mod Passing
pub mod Slots
