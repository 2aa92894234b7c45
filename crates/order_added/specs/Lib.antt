pub mod Accepted
pub mod Added
pub mod Judging
pub mod Settled
