-- The laws that the proofs of the functions use, and the theorems about what is printed.
pub mod Digits
pub mod Laying
pub mod Spelling
pub mod LinesLaid
pub mod Answered
pub mod EdgesRead
pub mod Pages
pub mod EnoughPage
pub mod WorkedOutputs
