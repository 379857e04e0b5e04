-- Laws that the code's proofs cite.
pub mod Letters
mod Turns
-- A rig on what is lent, and calls of it one after the other.
mod Boards
mod Called
mod Bytes
mod Starting
-- What a choice of steps answers.
pub mod Outcomes
