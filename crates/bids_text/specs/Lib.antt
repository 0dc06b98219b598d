pub mod Pair
pub mod Example
