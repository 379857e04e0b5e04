-- What the exported functions leave, as numbers.
pub mod Finished
pub mod Conversions
pub mod ChaseSizes
