pub mod AcceptLaws
pub mod OrderedLaws
