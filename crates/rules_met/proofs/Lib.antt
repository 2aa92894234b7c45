pub mod SourceLaws
pub mod AnswerLaws
pub mod CodingLaws
