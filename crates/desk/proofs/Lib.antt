-- What the statements of this crate settle, and what follows for those who call both functions.
pub mod Accepting
pub mod OneOutcome
pub mod AcceptedSheet
pub mod HeadsMeetTails
pub mod Telling
