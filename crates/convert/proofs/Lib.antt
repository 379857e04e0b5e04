-- One instruction more: what is kept of a task, and where it goes on; what the parts give together.
mod Marking
mod Finding
mod Spots
mod Writing
mod Slots
mod Stages
