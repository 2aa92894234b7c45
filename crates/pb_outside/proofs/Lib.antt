pub mod Passed
pub mod ReadSoFar
pub mod Written
