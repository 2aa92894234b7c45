pub mod AnswerLaws
mod LineSteps
