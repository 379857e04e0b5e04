-- Demand 3: the statement, what else holds of moves, of parents, of marks and of plans on one level, and what a corollary is stated with; of lists that
-- mix steps and calls of dispatchers, that they are runs, whom they choose, which letters leave and when they rest; that the finish check's answer and
-- the number of accepted runs are the same everywhere; that runs at different desks commute; what tablets show; the two logs; repeats; the longest chase; what a panel shows.
pub mod Statement
pub mod Moves
pub mod OneProcessor
pub mod Parents
pub mod Overflows
pub mod OldPlans
pub mod Commute
pub mod Logs
pub mod Tablets
pub mod Repeats
pub mod Chase
pub mod Corollaries
pub mod Events
pub mod Dispatch
pub mod Turns
pub mod Letters
pub mod Rounds
pub mod Finish
pub mod Work
pub mod Panel
