pub mod Met
pub mod Span
