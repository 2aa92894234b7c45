pub mod StepLaws
pub mod PutLaws
pub mod OwnBooks
pub mod SessionLaws
