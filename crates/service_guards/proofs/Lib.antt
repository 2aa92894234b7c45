mod LaterHands
pub mod PortLaws
