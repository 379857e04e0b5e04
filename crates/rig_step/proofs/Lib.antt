-- The laws of one step, and of a rig on a board.
pub mod Parts
mod Agreeing
pub mod Boards
pub mod Reports
pub mod MailAfter
pub mod Acting
