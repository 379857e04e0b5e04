-- A task that a view may show.
pub mod Viewed
