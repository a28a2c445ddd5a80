-- How the outcome keeps the promise, and laws about it.
pub mod Computing
pub mod Matching
pub mod Leaving
pub mod Renamed
pub mod MatchingDown
pub mod Tops
pub mod Running
pub mod Promising
pub mod Worked
