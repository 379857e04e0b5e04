-- What a loop over steps leaves, and a run over a step file.
pub mod all_steps
pub mod file
