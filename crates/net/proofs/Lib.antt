-- Runs of a machine: one after another, what they keep, that they end, and, where labels commute, that all end in one state.
pub mod Runs
pub mod Confluence
pub mod Halting
-- The net: labels commute, runs end, all end alike, and who is then stuck.
pub mod Parts
pub mod Stays
pub mod Commute
pub mod Passed
pub mod Remaining
pub mod NextInstruction
pub mod Consistent
pub mod Children
pub mod Stuck
pub mod Meaning
pub mod Samples
