pub mod Left
pub mod Freedom
pub mod Seen
