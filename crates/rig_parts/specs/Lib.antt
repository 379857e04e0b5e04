-- What a step would do, said of the parts of a rig: what its functions compute, one by one.
pub mod Sweeps
pub mod Facts
pub mod Fetches
pub mod Scopes
pub mod Answers
pub mod RunVerdicts
pub mod MoveVerdicts
pub mod Openings
pub mod Feasible
pub mod Rests
pub mod Effects
-- One step carried out on the parts of a rig.
pub mod Turns
