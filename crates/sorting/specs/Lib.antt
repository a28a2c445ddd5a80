-- What a sorted slice is.
pub mod Sorted
