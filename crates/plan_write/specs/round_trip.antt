-- What a round trip gives.
pub mod Trips
