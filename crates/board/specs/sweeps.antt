-- What is kept for channels, changed in some of what is lent.
pub mod Sweeps
