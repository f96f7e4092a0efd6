pub mod Seek
pub mod Step
