-- The verdict on an instruction, by its kind, and what it supposes.
pub mod Sends
pub mod Receives
pub mod Locals
pub mod Refusals
pub mod Nexts
