-- The laws of files and plans: what an accepted file is, that reading and writing undo each other, and what an accepted plan says of its
-- instructions.
pub mod Answers
pub mod Pieces
pub mod Codes
pub mod Canonical
pub mod LayoutRead
pub mod Held
pub mod ReadLayout
pub mod LayoutBytes
pub mod RoundTrip
pub mod Programs
pub mod Users
pub mod Parents
pub mod Ends
pub mod BothEnds
