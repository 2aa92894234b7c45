pub mod Moments
pub mod Torn
mod Tapes
mod Replays
mod Disks
