-- The laws that the functions of this crate are proved with; each function has a folder of its own.
pub mod Rooms
pub mod Attaching
pub mod Ways
pub mod Beside
pub mod Chaining
pub mod Outcomes
pub mod Passing
pub mod Sweeping
pub mod Sums
pub mod Handing
pub mod Given
