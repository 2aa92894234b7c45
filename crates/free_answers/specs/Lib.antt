pub mod Answer
pub mod FreeText
