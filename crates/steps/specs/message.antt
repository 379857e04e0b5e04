-- What is not lent, letters about a channel, and what their rules see.
pub mod Parts
pub mod ChannelMessages
pub mod Seen
pub mod TaskMessages
