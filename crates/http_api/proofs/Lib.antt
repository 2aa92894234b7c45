pub mod Seeking
pub mod Items
pub mod Found
pub mod Table
pub mod Between
pub mod Only
pub mod Ascii
pub mod Reading
pub mod Codes
pub mod Pieces
pub mod HeadFirst
pub mod MemoryText
pub mod Deniable
mod Methods
