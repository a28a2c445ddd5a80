-- The laws that the proofs of the functions of finding, and of the crates above, stand on.
pub mod Noting
pub mod InUse
pub mod Owners
pub mod Indexing
