-- The laws of the rules: what is read and written, the mail, steps, what each step keeps.
pub mod TaskAt
pub mod Ready
pub mod CellAt
pub mod ParentAt
pub mod ForChannels
pub mod Messages
pub mod Steps
pub mod Sound
pub mod StepKinds
pub mod Changes
pub mod Shapes
-- what the check of two logs is made of: beginnings, the lowest channel
pub mod Logs
pub mod Blind
pub mod ButChosen
pub mod Dispatch
