pub mod Lists
pub mod Laps
