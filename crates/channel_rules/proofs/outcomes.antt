-- How the variants of a letter are told apart.
pub mod Others
