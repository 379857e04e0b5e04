-- What one instruction more changes; what the pass finds is what the paper asks of the plan.
mod ByKind
pub mod Sized
pub mod Changes
mod Nexts
mod Marked
mod Unpaired
mod Uses
pub mod Taken
pub mod Entries
mod Editions
pub mod Meaning
pub mod Values
