-- What a letter without effect leaves.
pub mod Outcomes
