-- A desk with a number beside it.
pub mod Pairs
