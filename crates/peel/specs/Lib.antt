pub mod Sum
pub mod Plain
pub mod Linked
pub mod Peel
pub mod Peeling
