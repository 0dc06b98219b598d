pub mod Text
pub mod Made
pub mod Example
