pub mod Numbers
pub mod Letters
pub mod Image
pub mod Live
