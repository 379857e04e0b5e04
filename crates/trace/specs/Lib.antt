-- The words of lines and the text of the last, and what the output holds behind a line.
pub mod Lines
pub mod Output
-- What a trace's bound is stated with, and what a driver's author may rely on.
pub mod Bounds
pub mod Growing
