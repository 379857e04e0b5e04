-- What the parts of writing put where is the paper's file.
mod Entries
mod Meaning
