pub mod Tests
pub mod Headers
pub mod Stepping
pub mod Only
