pub mod OwnOrders
pub mod OwnEffects
pub mod OwnSteps
pub mod OwnHistories
pub mod WorkedCallers
