-- What the counting of a panel is stated with.
pub mod Counted
pub mod Files
pub mod Tally
