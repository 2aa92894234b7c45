pub mod Checked
pub mod NotReleased
