-- Why runs of tasks at different desks commute.
-- what a write leaves alike
pub mod Writes
pub mod Alike
pub mod Births
-- what the rules make of a task elsewhere
pub mod Rules
-- the frame law
pub mod Outcomes
pub mod Runs
pub mod Transfers
pub mod Frames
-- two runs
pub mod Apart
pub mod Seconds
pub mod Parts
pub mod Commutes
