-- What the paper says of the rig: first what it is made of and how it is read and changed, then start, run, deliver, move, refusal 9, steps,
-- the dispatcher, the panel, views of a task, trace and step file; whether a plan finishes; what is sent, and the logs.
pub mod Numbers
pub mod Answers
pub mod Reports
pub mod Hints
pub mod Tasks
pub mod Places
pub mod Cells
pub mod Networks
pub mod Systems
pub mod Effects
pub mod Starts
pub mod Local
pub mod Send
pub mod Receive
pub mod Runs
pub mod Offers
pub mod Calls
pub mod Arrivals
pub mod Deliver
pub mod Moves
pub mod Sound
pub mod Steps
pub mod Dispatch
pub mod Panel
pub mod Views
pub mod Erasures
pub mod Trace
pub mod StepFiles
pub mod Logs
pub mod LogFiles
-- will this plan finish
pub mod Finish
