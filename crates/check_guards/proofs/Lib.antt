pub mod ReportLaws
pub mod RuleReportLaws
pub mod RefusalLaws
