-- What a run lends, what a step does to it, and what it supposes.
pub mod Lent
pub mod Acted
pub mod Verdicts
pub mod Rigs
pub mod packing
pub mod sweeps
