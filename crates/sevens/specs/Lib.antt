pub mod Sevens
pub mod Laws
pub mod Steps
