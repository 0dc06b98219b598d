pub mod Reach
pub mod Rate
