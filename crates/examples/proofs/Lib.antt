-- Each input has its outcome.
pub mod Edges
-- Each run has its trace.
pub mod Scenes
-- What demand 3 says of two runs, that its test of letters tells rigs apart, and what is said of moves, of marks, of plans on level 0, of runs at
-- different desks, of logs, of dispatchers, of tablets, of plans with repeats, of the finish check, of chases and of panels.
pub mod Demand3
pub mod Bound
pub mod Suppositions
pub mod Moves
pub mod Overflows
pub mod OldPlans
pub mod Commute
pub mod Logs
pub mod Dispatch
pub mod Tablets
pub mod Repeats
pub mod Finish
pub mod Chase
pub mod Panel
