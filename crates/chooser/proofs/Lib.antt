-- A round of calls without a step is rest.
pub mod Enough
