-- The laws that the proofs of the functions of journal, and of the crates above, stand on.
pub mod Writing
pub mod Numbers
