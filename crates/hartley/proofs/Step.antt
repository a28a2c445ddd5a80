-- One edge treated: the four steps, a row passed up, an outline closed; then the same at plain tables, by induction on the levels left.
pub mod RowOfStepOne
pub mod StepsOnARow
pub mod RowPassedUp
pub mod OutlineClosed
pub mod BothPassedUp
pub mod TableSeen
pub mod StepsSeen
pub mod Given
pub mod EdgeInHand
pub mod EdgeTreated
