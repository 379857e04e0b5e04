-- Records as numbers.
pub mod Packed
