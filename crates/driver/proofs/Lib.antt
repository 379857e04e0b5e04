-- What the exported run leaves, and its numbers.
pub mod Traced
pub mod Numbers
pub mod Room
