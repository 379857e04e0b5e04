-- Which bytes are refused, what an opened rig is, and what is answered of it.
pub mod Refused
pub mod Opened
pub mod Shown
pub mod Panels
-- A step of a rig in bytes.
pub mod Turns
pub mod Making
pub mod Stepped
pub mod Records
pub mod Left
pub mod Starts
-- The turns of a call.
pub mod Calls
pub mod Called
pub mod Addressed
