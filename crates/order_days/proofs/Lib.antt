mod DayRanges
mod OutcomesAlike
mod PartSteps
mod RunLaws
mod ToldSame
mod TextSteps
