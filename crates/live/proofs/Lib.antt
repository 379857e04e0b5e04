-- What the calls promise, by what they were made of.
pub mod Starts
pub mod Panels
pub mod Resting
pub mod Views
