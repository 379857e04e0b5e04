-- Whether the rig is at rest, by its tasks.
pub mod Rests
