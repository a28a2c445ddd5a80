-- How records lie in their slice, which the contracts of journal speak of.
pub mod Layout
