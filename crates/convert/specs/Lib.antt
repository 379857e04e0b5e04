-- What the parts of the converter compute; the proofs show that together this is the paper's conversion.
pub mod Marks
pub mod Spots
pub mod Tasks
pub mod Stages
