pub mod Laws
pub mod Reports
pub mod Comparisons
