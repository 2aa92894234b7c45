mod EndLaws
mod QuestionLaws
mod CountLaws
mod TouchLaws
mod TouchedLaws
mod NotedLaws
mod FitLaws
pub mod GoalLaws
mod SizeLaws
mod CodingLaws
mod GroupLaws
mod SourceLaws
pub mod ReportLaws
mod OccursLaws
mod SliceJoins
