-- How rows lie in their slice, which the contracts of rows speak of.
pub mod Layout
