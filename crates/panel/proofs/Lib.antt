-- Why a panel's counts are those of its rig.
mod Counting
mod Answers
mod Packed
mod Reached
mod Shown
-- Numbers put one behind the other.
pub mod Puts
