pub mod Completing
pub mod Completion
pub mod Occurrences
pub mod Tables
pub mod Worklist
