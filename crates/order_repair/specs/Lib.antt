pub mod Places
pub mod Ordered
pub mod Repair
pub mod RepairText
