pub mod LinkTold
pub mod PortTold
pub mod DoorTold
pub mod MemoryPort
pub mod MemoryDoor
