mod Guards
mod WorkedRows
pub mod OrderedLaws
