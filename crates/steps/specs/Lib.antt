-- What a move supposes and does; the word that a run changes; the refusal of a step that is no run and no move.
pub mod Moves
pub mod Words
pub mod Kinds
pub mod instruction
pub mod message
