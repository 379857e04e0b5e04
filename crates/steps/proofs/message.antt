-- Letters about a channel carried out on what is lent.
pub mod Others
pub mod Bounds
pub mod Rules
pub mod Tasks
pub mod Stores
pub mod Sites
mod Lending
mod TaskActs
mod Unsaid
