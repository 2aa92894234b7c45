pub mod BookClauses
pub mod Coding
