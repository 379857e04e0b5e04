-- Whom a letter is for, and what a turn of a call gives, in the code's record.
pub mod Letters
pub mod Turns
-- Calls at the desks in turn: the steps that they choose; a rig on what is lent, and what they make of it.
pub mod Calls
pub mod Boards
