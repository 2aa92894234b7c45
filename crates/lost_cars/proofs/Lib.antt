pub mod NameLaws
pub mod ViolationLaws
mod AskLaws
mod SameLaws
pub mod NotedLaws
pub mod KeepLaws
mod CommonCarLaws
