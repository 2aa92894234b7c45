pub mod Literal
pub mod Clause
pub mod Marks
pub mod Region
pub mod PoolContents
pub mod Chain
pub mod Steps
pub mod Derivation
