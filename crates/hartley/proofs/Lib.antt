-- The theory of the steps, from the ground up, in the order to read it; Results.Results is what other crates cite.
pub mod Paths
pub mod Seams
pub mod Invariant
pub mod Bounds
pub mod Step
pub mod Results
