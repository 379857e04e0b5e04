-- One channel: how a moving task is located, the view of a channel, its events, its invariant and its measure.
pub mod Updates
pub mod Bags
pub mod Hints
pub mod Messages
pub mod Views
pub mod Places
pub mod Transfers
pub mod Deliveries
pub mod Events
pub mod Invariant
pub mod Measure
