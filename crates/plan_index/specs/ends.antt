-- What is derived from an accepted plan, and what its parts compute, slot by slot.
pub mod Derived
pub mod Numbers
