-- What it is for a rig, or a part of one, not to be refused by 9.
pub mod Fine
pub mod Settled
pub mod Sites
pub mod Sound
pub mod Stands
-- What it is for the words of a rig, or of a part of one, to have a property.
pub mod Words
