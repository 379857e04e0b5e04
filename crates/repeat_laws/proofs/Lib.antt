-- A task that goes on stands at a place that is in order, has less left, and has said what it left behind; what is written, and of a file without
-- a repeat.
pub mod Lists
pub mod Going
pub mod Written
pub mod Converted
pub mod Plain
