pub mod Steady
pub mod Meets
pub mod Spans
pub mod Answers
pub mod Mapped
pub mod Exits
pub mod Only
pub mod Laws
