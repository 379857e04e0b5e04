-- Laws of the mail changed in place, and of how many letters are posted.
pub mod Adverts
pub mod Gaps
pub mod Posted
pub mod Shift
