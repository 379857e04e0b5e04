-- What the call promises, by what it was made of.
pub mod Meeting
