-- What each letter does where it goes to: to a channel's site, or to a task.
pub mod Messages
