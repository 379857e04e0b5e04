-- What a plan of the new edition means with no desks, without writing it out; and how it is beside its written-out plan.
pub mod Machine
pub mod Beside
