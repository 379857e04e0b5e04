-- What holds of every rig that a run from the start reaches.
-- what holds of channels and of families is kept
pub mod ViewsKept
pub mod FamilyParts
pub mod ChildParts
pub mod PlacesKept
pub mod ChildrenKept
pub mod BirthsKept
pub mod Families
-- how often a task has moved
pub mod Counts
-- the measure falls
pub mod Work
pub mod TaskMessages
pub mod TaskWeights
pub mod ChannelFalls
pub mod TaskFalls
pub mod Falls
-- the net runs beside the rig
pub mod Coming
pub mod NetSteps
pub mod NetChannel
pub mod NetTasks
pub mod NetEnds
pub mod Simulation
-- who is marked
pub mod Overflows
-- the start, and each step
pub mod StartViews
pub mod Starts
pub mod Next
-- a rig at rest
pub mod Rest
