-- A rig on a board, with its mail, and a step there without it.
pub mod Rigs
pub mod Acts
