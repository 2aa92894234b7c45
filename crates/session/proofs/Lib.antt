mod Writing
pub mod Faults
mod Streams
mod Going
mod Ending
mod Ranges
mod Asked
mod Hands
mod Dealings
