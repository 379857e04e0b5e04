-- What the exported functions answer.
pub mod Runs
pub mod Logs
