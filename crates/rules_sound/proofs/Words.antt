-- A property of words that the sets and adds of a plan keep holds of every word of a run: of its tasks, of its letters, and received.
mod Postings
mod Rules
pub mod Systems
mod Runs
mod Deliveries
pub mod Steps
-- levels of 16 bits are such a property
pub mod Fits
