-- The test of a task, by what it looks at of its program.
pub mod Tests
