pub mod DayLaws
mod RunLaws
mod PartsAlike
mod DifferLaws
mod TextLaws
