pub mod Laws
pub mod History
pub mod Places
pub mod Standing
pub mod Turning
pub mod Steps
