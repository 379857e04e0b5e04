-- The laws of this crate's definitions.
pub mod Tests
pub mod Folds
pub mod Slots
pub mod Tables
pub mod Joins
pub mod Sums
pub mod Fronts
pub mod Choices
pub mod Answers
pub mod Updates
pub mod Beginnings
pub mod Counts
pub mod Maps
pub mod Pairs
pub mod Scans
pub mod Sets
pub mod SetsOf
