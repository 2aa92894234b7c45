pub mod Stop
pub mod Run
