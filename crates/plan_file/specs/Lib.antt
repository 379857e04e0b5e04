-- What the parts of a plan file are read as.
pub mod Header
pub mod Code
-- The reader, and what it reads of a file stage by stage; the proofs show that together this is the paper's reading.
pub mod Reader
pub mod Stages
pub mod Opens
pub mod scan
