pub mod BlamedLaws
pub mod StateLaws
pub mod StayLaws
pub mod WorkedRequirements
