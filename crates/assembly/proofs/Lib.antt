-- The laws of the assembly, each after those that it rests on.
pub mod Places
pub mod Tables
pub mod Placing
pub mod Passes
pub mod CutInOrder
pub mod Assembling
pub mod OneOutcome
pub mod Worked
