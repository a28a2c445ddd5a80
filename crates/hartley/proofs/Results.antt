-- The whole list: how the sweeps end, that they give the numbering, rows that are enough, the exact peak, which edge lacks a row. Results is what other crates
-- cite.
pub mod NearRun
pub mod ListSwept
pub mod SweepEnded
pub mod GivesNumbering
pub mod NumbersFit
pub mod RowsEnough
pub mod PeakExact
pub mod OnlyItself
pub mod TurnsFollow
pub mod Results
