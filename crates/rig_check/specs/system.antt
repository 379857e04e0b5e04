-- What the tests of a rig compute from its arrays.
pub mod Tasks
