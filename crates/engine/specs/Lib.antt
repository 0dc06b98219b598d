pub mod Verdict
pub mod Lap
pub mod Turn
