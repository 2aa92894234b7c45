mod Worked
mod TokenLemmas
mod PendingLemmas
mod DraftLemmas
mod StepLemmas
mod Sound
mod Whole
pub mod Counts
mod AnswerLemmas
pub mod Back
