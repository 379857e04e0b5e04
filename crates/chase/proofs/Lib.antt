-- The construction does what is said of it: steps one by one, the rig on its way, a round, the end, the run. What is put into the outputs, and numbers that are read.
pub mod Walks
pub mod Rig
pub mod Rounds
pub mod Ending
pub mod Files
pub mod Chased
pub mod Writing
pub mod Numbers
pub mod Outcomes
