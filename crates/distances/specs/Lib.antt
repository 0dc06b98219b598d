pub mod Links
pub mod Near
pub mod Queue
