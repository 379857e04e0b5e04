-- What the tests of refusal 9 look at.
pub mod limits
pub mod system
pub mod tasks
