-- Every accepted step is an act.
-- counts, changed functions, and sorted mail
pub mod Flags
pub mod Updates
pub mod Flats
-- one task
pub mod Parents
pub mod Tasks
pub mod EndSteps
pub mod Unseen
-- what is read of a rig
pub mod Frames
pub mod Rigs
pub mod Runs
-- steps that no channel sees
pub mod Ways
pub mod OwnTransitions
pub mod FinishTransitions
pub mod EndedTransitions
-- a channel: what a rule leaves
pub mod Outcomes
-- births, moves and arrivals
pub mod PlaceViews
pub mod CreateTransitions
pub mod MoveTransitions
pub mod ArrivalTransitions
-- a channel: runs
pub mod Transfers
pub mod SendTransitions
pub mod ReceiveTransitions
-- a channel: letters
pub mod MessageTransitions
pub mod OfferTransitions
pub mod AdvertTransitions
pub mod CallTransitions
-- all steps
pub mod Dispatch
