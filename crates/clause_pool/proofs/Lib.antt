pub mod LiteralLaws
pub mod ClauseLaws
pub mod ChainLaws
pub mod RegionLaws
pub mod MarkLaws
mod SortLaws
mod RunLaws
mod WorkedCases
