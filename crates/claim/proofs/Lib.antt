-- Demand 3, proved.
-- lists of steps, rest, letters that find what they suppose
pub mod Lists
pub mod Quiet
pub mod Whole
pub mod Supposed
pub mod Finds
-- the claim, and what follows
pub mod Demand3
pub mod Files
pub mod Corollaries
pub mod Moves
pub mod Parents
pub mod Overflows
pub mod OldPlans
-- the two logs: the words that steps send and that letters have, a step, a list, how many, their bytes
pub mod SentWords
pub mod SentPostings
pub mod PassingWords
pub mod SentDeliveries
pub mod Sent
pub mod PassedFew
pub mod LogBytes
pub mod LogFits
pub mod Logs
-- .. and what the answers of the check mean
pub mod Verdicts
-- at most one call or word letter of a channel
pub mod OneMessage
-- runs at different desks
pub mod Commute
-- lists that mix steps and calls of dispatchers: they are runs
pub mod Events
pub mod Dispatch
pub mod Live
-- a task that stays ready is chosen in its turn
pub mod Searches
pub mod Turns
-- a letter leaves
pub mod Positions
pub mod Earliest
pub mod Followed
pub mod Letters
-- rounds of calls come to rest
pub mod Idle
pub mod Waiting
pub mod Calls
pub mod Rounds
-- what tablets show of plans that differ in arguments
pub mod Tablets
-- plans with repeats, and written out
pub mod Repeats
-- the finish check: the lowest living child, the same answer everywhere, never 0
pub mod Lowest
pub mod Finish
pub mod Blocked
pub mod NeverZero
-- how many runs are accepted: a run takes its task one place on, and so the number is everywhere the same
pub mod PlaceRules
pub mod Places
pub mod Work
-- one desk: its rules, its runs and its lists of steps post no letter
pub mod Silent
pub mod OneRun
pub mod OneProcessor
-- the longest chase: what is posted, letters counted, where an offer comes from, one letter of each, its count, how often it is forwarded
pub mod OfferPostings
pub mod MailCounts
pub mod Origins
pub mod OneOffer
pub mod OfferLetters
pub mod Chased
pub mod Chase
-- what a panel shows
pub mod Panel
