-- What is answered about the instructions of a file.
pub mod Code
