-- The outcome of a call and what is promised of it; OnSlices is for this crate's own functions.
pub mod Outcome
pub mod Promised
pub mod OnSlices
