pub mod GuardLaws
pub mod GuardedLaws
pub mod BelowLaws
pub mod MadeLaws
pub mod FitLaws
mod WorkedGuards
