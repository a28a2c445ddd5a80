-- What the two sweeps mean on the lent slices.
pub mod Slices
pub mod Beside
pub mod Treated
pub mod Lookup
pub mod Reading
