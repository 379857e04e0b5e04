-- The mail in place: which letter is delivered, what is posted round by round, and how many desks get an advert.
pub mod Rounds
pub mod Positions
