pub mod Promise
pub mod Bids
