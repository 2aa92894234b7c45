mod ToldLaws
mod TableLaws
pub mod LaterHands
pub mod Seats
mod NewOrders
mod Repeats
pub mod EventNames
pub mod BookNames
pub mod CheckedLaws
mod AdviceLaws
pub mod WorkedOrders
