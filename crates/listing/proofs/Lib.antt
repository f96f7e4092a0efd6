pub mod Answers
pub mod Tables
pub mod Pages
pub mod Turns
