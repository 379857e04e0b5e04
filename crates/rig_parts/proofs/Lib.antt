-- What is computed on the parts of a rig is what the rules say of the rig.
pub mod Sweeping
pub mod Sweeps
pub mod Fetching
pub mod Names
pub mod Effects
pub mod SendNumbers
pub mod LocalRuns
pub mod ChannelRuns
pub mod Answers
pub mod Passed
pub mod Runs
pub mod Moves
pub mod Openings
pub mod Deliveries
pub mod AtRest
-- The numbers that a step on the parts meets are within their bounds.
pub mod BoundsParts
pub mod BoundsScope
pub mod BoundsReady
pub mod BoundsRun
pub mod BoundsVerdicts
pub mod BoundsMessage
pub mod BoundsOpening
-- What a step makes of the parts of a rig is what it makes of the rig.
pub mod Carrying
pub mod Turning
pub mod Whole
pub mod Rigs
pub mod Bounds
pub mod Feasible
