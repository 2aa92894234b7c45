pub mod Disk
pub mod Tape
pub mod Calls
pub mod MemoryDisk
pub mod SystemCalls
pub mod FileDisk
