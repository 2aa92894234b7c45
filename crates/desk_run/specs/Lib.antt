pub mod DeskRun
pub mod Released
pub mod Sure
