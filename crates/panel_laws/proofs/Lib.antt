-- The laws of the counts of a list of steps, and of the limits of a panel.
pub mod Tallies
pub mod Totals
pub mod Inside
