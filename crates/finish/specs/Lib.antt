-- Which task can run, the run to rest, and the answer as it is read off the board.
pub mod Searches
pub mod Settles
pub mod Answers
-- The check of a plan file.
pub mod Files
