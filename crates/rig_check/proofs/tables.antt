-- What `all` computes over a table.
pub mod Items
