pub mod Entries
pub mod Guards
pub mod Blame
pub mod Guarding
pub mod Absent
pub mod Plain
pub mod Cases
pub mod AskText
