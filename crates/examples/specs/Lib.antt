-- The paper's starred edges of a rig, and whole rigs on both sides of 9: inputs and outcomes.
pub mod Edges
pub mod SystemEdges
-- Runs of the rig with their traces.
pub mod Scenes
-- A plan and its steps, for demand 3.
pub mod Demand3
-- Tasks that add at the top and over it.
pub mod Overflows
-- Two tasks that may run next.
pub mod Commute
-- Words that pass directly and by letters.
pub mod Logs
-- Steps and calls, mixed.
pub mod Dispatch
-- Plans that differ in an argument.
pub mod Tablets
-- A plan with repeats.
pub mod Repeats
-- A plan that is stuck, and one that finishes.
pub mod Finish
-- An offer that follows its receiver.
pub mod Chase
