-- The longest chase: a plan and steps in which one offer is forwarded as often as asked; what they do; what is answered and written; the number read.
pub mod Construction
pub mod Chase
pub mod Outcomes
pub mod Numbers
