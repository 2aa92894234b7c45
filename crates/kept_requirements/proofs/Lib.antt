pub mod AskedLaws
pub mod CellLaws
pub mod RunLaws
pub mod RefusalLaws
