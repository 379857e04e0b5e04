-- What the functions of a rig in bytes promise, and what they are made of.
pub mod Open
pub mod Shows
pub mod Start
pub mod Turns
pub mod Calls
