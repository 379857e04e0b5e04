-- What the pass over the instructions of a plan finds; the proofs show that it is what the paper asks of the plan.
pub mod Editions
pub mod Marks
pub mod Firsts
pub mod Ends
pub mod Pass
pub mod Sizes
pub mod Slots
