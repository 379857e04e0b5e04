-- What the exported function answers, and that the number of calls does not end a choice.
pub mod Choices
pub mod Enough
