-- The parts of a rig at the start.
pub mod Parts
