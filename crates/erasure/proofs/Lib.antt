-- A step of a rig without words is that of the rig, without words.
mod Lists
pub mod Programs
pub mod Plans
mod Tasks
mod Networks
mod Rules
pub mod Systems
mod Places
mod Sites
mod Opcodes
mod Runs
mod Deliveries
mod Moves
pub mod Sound
pub mod Steps
