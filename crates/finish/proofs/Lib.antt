-- The one-desk rig that is lent, one run further, at rest; the answer as it is read off the board.
pub mod Starting
pub mod Going
pub mod Reading
pub mod Outcomes
pub mod Length
