-- The statements, in the order to read them.
pub mod Amounts
pub mod Points
pub mod Rank
pub mod Turning
pub mod Edges
pub mod Kinds
pub mod Corners
pub mod Joining
pub mod Numbering
pub mod Passing
pub mod Answers
pub mod TurnList
pub mod Sound
