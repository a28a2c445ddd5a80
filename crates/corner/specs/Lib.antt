-- What two turns the same way are.
pub mod Turns
