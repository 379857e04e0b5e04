-- A rig as it is read, its accepted steps, and what holds of it.
-- what is read
pub mod Readings
pub mod Progress
pub mod Messages
pub mod Views
-- what the accepted steps change
pub mod EndSteps
pub mod Transitions
-- what holds of every rig that a run reaches
pub mod Family
pub mod Agreement
