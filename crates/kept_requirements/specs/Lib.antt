pub mod Kept
pub mod Notes
pub mod Rows
pub mod NotesText
