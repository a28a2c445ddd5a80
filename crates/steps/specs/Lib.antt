-- What the steps are said with, from rows and records to the two sweeps and the plain tables that they compute on.
pub mod Rows
pub mod SweepUp
pub mod SweepDown
pub mod Plain
pub mod Swept
