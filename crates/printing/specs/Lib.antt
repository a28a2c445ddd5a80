-- What is printed, and how the bytes lie in the slice lent for them.
pub mod Output
pub mod Laid
