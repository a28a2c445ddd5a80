-- What the call promises; Laying is for this crate's own functions.
pub mod Assembled
pub mod Laying
