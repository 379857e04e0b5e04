-- What the laws of a panel are stated with.
pub mod Tallies
