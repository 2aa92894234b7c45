pub mod FirstFiring
pub mod Laws
mod Steps
pub mod OccurrenceLemmas
mod WorklistLemmas
mod Cases
mod WorkedRows
