pub mod Broken
pub mod Unfit
pub mod Fault
pub mod Outcome
pub mod Ordered
