-- The list with its joins, the paths that edges and rows own, and the journal as the place of every edge in them.
pub mod Plan
pub mod Differences
pub mod TableWritten
pub mod DownLaw
pub mod Paths
pub mod PathClosed
pub mod Outlines
pub mod PathGrown
pub mod JournalLinked
pub mod RecordsCounted
pub mod JournalRead
