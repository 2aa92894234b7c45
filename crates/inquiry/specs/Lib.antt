pub mod Form
pub mod Told
pub mod Asking
