-- What definitions are written with: a choice, tests over ranges and lists, lists given by a rule, beginnings of lists, functions with a value
-- changed, sets in the bits of a number.
pub mod Choice
pub mod Range
pub mod Lists
pub mod Beginnings
pub mod Updates
pub mod Sets
