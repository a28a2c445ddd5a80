-- What the ends are as words, and in order.
pub mod Fitting
pub mod Ends
pub mod Guess
