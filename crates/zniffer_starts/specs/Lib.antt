pub mod Header
pub mod Idle
