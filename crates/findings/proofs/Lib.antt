pub mod Lifting
pub mod UsageLaws
pub mod ToldLaws
pub mod SliceLaws
pub mod BookLaws
pub mod SharedLaws
pub mod CheckLaws
pub mod SolverLaws
pub mod AgainLaws
pub mod LeftLaws
pub mod CoreLaws
pub mod AssumeLaws
pub mod QuestionSteps
pub mod QuestionRanges
pub mod CoreTold
mod WorkedReports
