pub mod EncodedLaws
pub mod SearchLaws
