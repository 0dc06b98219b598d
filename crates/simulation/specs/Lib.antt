pub mod Groups
pub mod Order
pub mod Rows
pub mod Whole
pub mod Simulation
pub mod Blanks
pub mod Refusals
