-- Each call finds the image of the rig that the events before it left.
pub mod Played
-- A start and two calls that meet what is promised of them.
pub mod Example
