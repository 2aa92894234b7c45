pub mod OrderedLaws
pub mod GatheredLaws
pub mod AloneLaws
