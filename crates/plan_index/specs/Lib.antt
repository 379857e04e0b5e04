-- What is derived of a plan, and who uses what in one table.
pub mod ends
pub mod user_table
