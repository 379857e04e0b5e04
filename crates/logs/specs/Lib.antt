-- What the two passes of the check compute.
pub mod Places
pub mod Following
