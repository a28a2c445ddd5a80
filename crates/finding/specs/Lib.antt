-- Which rows are noted as in use, and the index of tips beside the rows, which the contracts of finding speak of.
pub mod Free
pub mod Index
