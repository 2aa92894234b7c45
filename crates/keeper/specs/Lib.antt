pub mod Put
pub mod Keys
pub mod Rows
pub mod Causes
pub mod Counting
pub mod MemoryKeeper
