-- What is left of a program from a place on, and what holds of each place that is reached; programs without a repeat.
pub mod Left
pub mod Passed
pub mod Plain
