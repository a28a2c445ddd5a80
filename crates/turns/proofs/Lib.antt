-- The laws of the turn list.
pub mod Keys
pub mod Places
pub mod Marking
pub mod Gaps
pub mod Whole
pub mod Answering
pub mod Accepting
pub mod OneTurnList
pub mod Neighbours
