-- What a run reads and changes.
pub mod Footprints
pub mod Frames
pub mod Pairs
