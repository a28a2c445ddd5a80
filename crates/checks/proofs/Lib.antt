-- The laws behind the checks, each after those that it rests on.
pub mod EdgeFaults
pub mod LeastEdge
pub mod Visiting
pub mod ByWords
pub mod AtCorners
pub mod CornersMarked
pub mod PlaceNumbers
pub mod Answering
pub mod AnswerSheet
pub mod SoundList
pub mod Passed
pub mod NumbersRead
