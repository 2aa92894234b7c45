mod NeverUnfit
mod Accepted
pub mod OrderLaws
