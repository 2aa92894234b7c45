pub mod ChainLaws
pub mod ChainsMade
pub mod WideItemLaws
pub mod WideLeft
pub mod WideRanges
