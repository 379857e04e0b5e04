-- What is shown of the definitions, and the inputs and outcomes that it is shown of.

-- desks and plan files, each with the number that is answered: the starred edges among them
pub mod Edges
-- plans and outputs, each with what is answered and what the output then holds
pub mod WriteEdges
-- each entry of these two lists holds, by computation
pub mod EdgesHold
-- files with repeats and outputs, each with what is answered and what is written; each entry holds
pub mod RepeatEdges
pub mod RepeatEdgesHold
-- the parts of programs that are given by a rule: of a plan value's meaning, and of what a file holds
pub mod Parts
-- a sum of 16 bits that wrapped
pub mod Sums
