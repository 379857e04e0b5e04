-- What the laws of files and plans are stated with.
pub mod Bytes
pub mod Clear
pub mod BothEnds
