-- What a run over a step file begins with, and what it leaves in the lent output.
pub mod Begins
pub mod Writes
