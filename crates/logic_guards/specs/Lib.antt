pub mod Solving
pub mod Inquiries
pub mod Clauses
