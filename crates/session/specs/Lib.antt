pub mod Reading
pub mod Responses
pub mod Session
pub mod Dealing
pub mod Steps
