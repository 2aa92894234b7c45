pub mod Reports
pub mod RuleReports
pub mod Refusals
