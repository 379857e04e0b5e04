-- The pass over the instructions of a file: what is then answered.
mod Answers
