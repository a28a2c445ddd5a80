-- The statements, in the order to read them. From Runs on they are for this crate's own functions.
pub mod Places
pub mod Blade
pub mod Programme
pub mod Outlines
pub mod Instructed
pub mod Runs
pub mod Turning
pub mod Position
pub mod Joined
