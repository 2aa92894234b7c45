pub mod Answer
pub mod Solver
pub mod Marks
pub mod Search
pub mod Ending
