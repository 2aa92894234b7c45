pub mod BookLimits
pub mod GroupLemmas
mod DayOrder
mod Runs
mod SliceCases
pub mod SliceLaws
pub mod DaysAlike
mod WorkedRows
