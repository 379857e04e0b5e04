-- The start of a rig and its rest, by the parts of a rig.
pub mod rest
pub mod start
