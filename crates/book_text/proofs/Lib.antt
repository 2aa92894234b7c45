pub mod RowsLemmas
pub mod PlainLemmas
pub mod LoadLemmas
pub mod FieldLemmas
pub mod PassLemmas
pub mod ChoiceLemmas
pub mod GroupLemmas
pub mod PlaceLemmas
pub mod GroupLaw
mod Worked
pub mod DistinctLemmas
pub mod Faultless
pub mod NamesLaw
pub mod RecordsLaw
pub mod BookLaw
pub mod ReadLemmas
