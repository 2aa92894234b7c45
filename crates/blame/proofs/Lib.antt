pub mod ListLaws
pub mod EntryLaws
mod CodeLaws
mod ToldLaws
mod GuardLaws
mod KeptLaws
mod MarkLaws
mod LeftLaws
mod AbsentLaws
mod PlainLaws
mod SearchedLaws
