-- The laws of the ends' words, each after those that it rests on.
pub mod EdgeRanks
pub mod Fitting
pub mod Words
pub mod Guessing
pub mod OneOrder
pub mod InFront
