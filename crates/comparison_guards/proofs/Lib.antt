mod PartsHave
mod WorkedTexts
pub mod PositionLaws
pub mod CarLaws
pub mod RunLaws
pub mod KeptOrderLaws
pub mod DayLaws
pub mod RepairLaws
