-- What is put where in an output.
pub mod Output
