-- What holds before and after each edge of the list: paths, seams and the table of rows together.
pub mod Invariant
pub mod EdgeAttached
pub mod TableTied
pub mod Branches
pub mod LeftAlone
pub mod BeforeTheFirst
pub mod NoRowLeft
