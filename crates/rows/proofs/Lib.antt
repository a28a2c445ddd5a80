-- The laws that the proofs of the functions of rows, and of the crates above, stand on.
pub mod Signs
pub mod Searching
pub mod Looking
pub mod Writing
pub mod Places
pub mod Numbers
