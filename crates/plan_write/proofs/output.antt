-- Bytes put at a place, and slot after slot.
pub mod Overlay
mod Slot
