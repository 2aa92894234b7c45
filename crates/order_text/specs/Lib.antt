pub mod OutcomeText
