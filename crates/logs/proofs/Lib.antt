-- Places in a log, and the two passes of the check.
pub mod Places
pub mod Linking
pub mod Lowering
pub mod Following
