-- Laws that the code's proofs cite.
mod Bits
mod Counting
mod Finding
