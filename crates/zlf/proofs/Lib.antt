pub mod Lines
pub mod Passing
pub mod Sums
pub mod Opened
