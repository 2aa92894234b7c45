pub mod Stocked
pub mod Rejudges
pub mod Told
pub mod DeskTold
pub mod Asked
pub mod Caused
pub mod Releasable
pub mod DeskSure
pub mod Sure
pub mod Headlines
pub mod Decided
pub mod Runs
pub mod Weaker
pub mod OneReply
mod WorkedHeadline
mod PositionLaws
