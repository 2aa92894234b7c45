mod Faults
mod Dealt
mod Serving
pub mod Released
pub mod Sure
