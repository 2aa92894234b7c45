pub mod ListLaws
pub mod Truth
pub mod FormulaLaws
pub mod NodeLaws
pub mod GroupLaws
pub mod ItemLaws
pub mod EachLaws
pub mod GoalLaws
pub mod LiftLaws
pub mod SliceLaws
pub mod Remaining
pub mod Bounds
pub mod CountLaws
pub mod SteadyLaws
pub mod GateLaws
pub mod CodedLaws
pub mod QuestionLaws
pub mod RangeLaws
pub mod MeetLaws
pub mod AgreeLaws
mod WorkedSlice
mod WorkedGroups
