pub mod LeftLaws
pub mod SeenLaws
pub mod StateLaws
