pub mod Ways
pub mod Steps
pub mod Valid
pub mod Answers
pub mod Only
