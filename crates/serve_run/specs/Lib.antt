pub mod Work
pub mod ServeRun
pub mod Workers
