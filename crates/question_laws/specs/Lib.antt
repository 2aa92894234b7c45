pub mod Reports
pub mod SupplementReports
