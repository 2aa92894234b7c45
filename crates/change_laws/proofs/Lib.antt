mod RankLaws
mod AlikeLaws
mod CompletionLaws
mod OrderLaws
mod SearchLaws
mod ReportLaws
mod ComparisonLaws
