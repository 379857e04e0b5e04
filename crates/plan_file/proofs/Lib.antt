-- What reading the parts computes, entry by entry and slot by slot.
pub mod Filling
mod Entries
mod Headers
pub mod Instructions
-- What the stages of reading give together is the paper's reading of a file.
mod Empty
mod Answers
mod Rest
pub mod Meaning
mod Fronts
pub mod Opens
