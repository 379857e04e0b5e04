-- One channel: how its receiver is located, what every event keeps, what follows, and how much is left to deliver.
pub mod Updates
pub mod Bags
pub mod Hints
pub mod Forwards
pub mod Adverts
pub mod Messages
pub mod Offers
pub mod PlacesKeep
pub mod TransfersKeep
pub mod DeliveriesKeep
pub mod Keep
pub mod Claims
pub mod Moves
pub mod Measure
pub mod Sample
