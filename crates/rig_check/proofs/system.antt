-- What the loop over the tasks computes is what the definition asks.
mod Programs
pub mod EachTask
