pub mod Blamed
pub mod States
pub mod Staying
