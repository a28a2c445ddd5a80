-- The definitions of the checks.
pub mod Stages
pub mod Faults
pub mod Places
pub mod Visits
pub mod Corners
pub mod Numbers
