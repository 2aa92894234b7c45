pub mod PassLemmas
pub mod ReadLemmas
