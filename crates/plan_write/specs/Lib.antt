-- What the header holds; the proofs show that header and code together are the paper's file.
pub mod Header
pub mod output
pub mod round_trip
