-- Lines put together, and put behind one another in the output.
pub mod Lines
pub mod Emitting
pub mod Filling
pub mod Putting
-- How long a trace is: decimals and lines; the bound. A step file that grows, and refused steps left out.
pub mod Decimals
pub mod Texts
pub mod Lengths
mod Steps
pub mod Bound
pub mod Growing
pub mod GrowingExample
