pub mod Limits
pub mod Form
pub mod Fields
pub mod Meaning
