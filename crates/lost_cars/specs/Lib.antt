pub mod ByName
pub mod Violation
pub mod Losses
pub mod Asks
pub mod Noting
pub mod CommonCar
