pub mod Days
pub mod Joined
pub mod Same
pub mod DaysText
