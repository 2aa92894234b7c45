pub mod JoinLaws
pub mod SameLaws
