-- A task of the new edition beside the same task written out; a label of the machine is one of the net's or none; at rest both say the same.
mod Tasks
mod Ends
mod Children
mod Follows
mod Rests
mod Ending
pub mod Meaning
