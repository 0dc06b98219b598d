pub mod Search
pub mod Scan
pub mod Climbing
pub mod Above
pub mod Order
