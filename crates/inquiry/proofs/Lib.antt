mod AskingLaws
mod TriedLaws
pub mod PartLaws
