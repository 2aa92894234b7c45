pub mod Budget
pub mod Days
pub mod Differs
pub mod Changes
pub mod Searched
pub mod Alike
pub mod ChangesText
pub mod Joining
