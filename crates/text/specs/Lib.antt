-- The definitions: what is answered, a number, a line, a whole text, and how edges are written.
pub mod Said
pub mod Numbers
pub mod Lines
pub mod Texts
pub mod Written
