-- What the parts of the turn list's check say.
pub mod Keys
pub mod Answers
pub mod Order
pub mod Numbered
