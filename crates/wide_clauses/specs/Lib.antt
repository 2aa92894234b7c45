pub mod Chains
pub mod WideItems
pub mod Encoding
