pub mod Listed
pub mod Ways
pub mod Found
pub mod Told
