-- How large things get: lengths, levels, and the rows in use before an edge that finds none.
pub mod LengthsAndLevels
pub mod RowsOfALevel
pub mod TwoUnreached
pub mod RowsByLevel
