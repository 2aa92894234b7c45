pub mod Fault
pub mod Pass
pub mod Stated
pub mod Requirements
pub mod FaultText
