-- The round trips, from the laws of reading and writing.
mod Laws
