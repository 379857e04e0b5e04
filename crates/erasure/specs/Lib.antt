-- What rules take and give back, without words.
pub mod Erased
