pub mod UsageLaws
pub mod SpoiltLaws
