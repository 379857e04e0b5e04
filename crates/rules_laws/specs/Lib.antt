-- What the laws of the rules are stated with.
pub mod Shapes
pub mod Children
