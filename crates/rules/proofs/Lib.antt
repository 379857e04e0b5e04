-- What is shown of the definitions, by computation, and the inputs and outcomes that it is shown of.

-- plans, steps and trace lines written short; whether a script's steps have the lines that it says
pub mod Scripts
-- small sites and rigs
pub mod Sites
-- both sides of each condition of 9: parts of a rig, each with what is found of it
pub mod SoundEdges
-- the definitions that an evaluation opens, under one name
pub mod Evaluated
-- each sample of SoundEdges is judged as it says
pub mod SoundCases
-- each way of a send and of a receive
pub mod SendCases
-- each way of an offer, an advert, a call and a word letter
pub mod MessageCases
-- each way of a finish and of an ended letter, a parent that moves
pub mod ParentCases
-- tasks, what is kept of two, births and moves, the mail
pub mod TaskCases
-- each refusal of a run, a delivery and a move, in their order where several hold; whole steps
pub mod StepCases
-- two runs at different desks, in either order
pub mod OrderCases
-- sets of ready tasks, and calls of a dispatcher
pub mod DispatchCases
-- the panel, and views of a task
pub mod ViewCases
-- the four levels of a word
pub mod LevelCases
-- the mark of a sum over the top
pub mod OverflowCases
-- numbers in a line, lines, and what fits into an output
pub mod TraceCases
-- tasks that are stuck at rest, and the lines of the finish check
pub mod FinishCases
-- when a word leaves, the bytes of a log, each answer of the check of two logs
pub mod LogCases
