-- What the paper says of plans: their meaning, when they are refused, their file.
pub mod Answers
pub mod Numbers
pub mod Kinds
pub mod Words
pub mod Programs
pub mod Users
pub mod Refusals
pub mod Layout
pub mod Files
pub mod Outcomes
pub mod Repeats
pub mod RepeatPlaces
pub mod RepeatRefusals
pub mod Conversions
