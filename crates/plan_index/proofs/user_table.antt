-- Laws of the links and of the table: how they are made, and where following the links leads.
pub mod Linking
pub mod Parents
pub mod Building
pub mod Stages
pub mod Following
