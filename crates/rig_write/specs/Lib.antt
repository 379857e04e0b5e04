pub mod Head
pub mod Sections
pub mod Written
pub mod Mail
