-- What the loops over a rig's bytes compute.
mod Places
mod Filling
mod Mail
mod Readies
mod Blocks
mod Fields
mod Tidy
mod Zeros
mod Passing
mod Together
mod Slots
