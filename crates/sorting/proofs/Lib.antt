-- The laws of sorting.
pub mod Tally
pub mod Reordered
pub mod Front
pub mod OneOrder
pub mod Standing
