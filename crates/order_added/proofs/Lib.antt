mod AcceptLaws
mod PassLaws
mod SettledLaws
pub mod OrderLaws
