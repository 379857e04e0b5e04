-- What is derived from a plan is what the paper says of its meaning, and what stands where in it.
mod Filling
mod Numbering
mod Meaning
pub mod Entries
