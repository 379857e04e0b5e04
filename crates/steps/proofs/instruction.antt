-- The verdict on a run, by what it finds and by the kind of its instruction.
pub mod Refusals
mod Nexts
mod Locals
mod ByKind
mod Runs
mod Decided
mod Receiving
mod Sending
mod Stored
pub mod Judged
mod Unseen
