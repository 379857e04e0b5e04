-- What a machine with labels is.
pub mod Machines
-- The net: what a plan means with no desks. Its state, its labels, when each may be taken, what that does; how much is left, and who is stuck.
pub mod States
pub mod Labels
pub mod Guards
pub mod Effects
pub mod Nets
pub mod Consistent
pub mod Stuck
pub mod Samples
