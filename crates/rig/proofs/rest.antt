-- Rest, by the tasks of a rig: case by case, and for the parts of a rig that 9 does not refuse.
pub mod Quiet
pub mod Refusals
