-- The fed indexer, in the order of reading. Words that this crate uses in one sense:
--
-- a piece           some bytes of a file, which come with one call
-- a line waits      until its LF and the next byte, or the end, have come
-- an open line      one whose LF has not come
-- a line is judged  once it is known whether its sequence ends behind it
-- halted            behind a refusal, which stays
pub mod Waiting
pub mod Machine
pub mod Small
pub mod Calls
pub mod WaitingLaws
pub mod SmallLaws
pub mod CodeLaws
pub mod Passing
pub mod CallLaws
pub mod Reached
pub mod Split
pub mod Whole
pub mod Fitted
pub mod Ends
pub mod Records
pub mod Turns
