-- What the tests of a task compute is what the definitions ask.
mod Children
pub mod Tests
