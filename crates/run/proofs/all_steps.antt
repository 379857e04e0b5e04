-- Lines and how many fit, steps on the parts of a rig, what a loop that owns the mail does to it, and the loop over a step file.
pub mod Fits
mod Turns
pub mod Progress
mod Going
mod Posts
pub mod Mail
pub mod Acting
