pub mod UseLaws
pub mod PlaceLaws
pub mod FewLaws
pub mod FirstLaws
pub mod SameLaws
