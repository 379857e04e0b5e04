-- Who uses what, in one table, the channels of each task, linked, and how the table is built.
pub mod Links
pub mod Users
pub mod Built
