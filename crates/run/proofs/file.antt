-- The parts at the start, the trace, and the outcome of a run.
pub mod Beginning
pub mod Opening
pub mod Traces
pub mod Outcomes
