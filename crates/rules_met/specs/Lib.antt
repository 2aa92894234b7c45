pub mod Met
pub mod Source
