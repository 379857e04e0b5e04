-- The start of a rig is what the paper says; an accepted plan's tables and an empty board begin it.
pub mod Starting
pub mod Tables
pub mod Boards
