-- The measure of a rig.
pub mod Weights
