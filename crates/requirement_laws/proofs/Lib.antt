pub mod ListLaws
pub mod LineLaws
pub mod DayLaws
pub mod KeptLaws
pub mod ReportLaws
