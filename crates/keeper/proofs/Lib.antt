mod Places
pub mod InOrder
