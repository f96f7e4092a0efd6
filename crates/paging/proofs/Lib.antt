pub mod Pages
pub mod Counting
pub mod Filled
pub mod Planning
pub mod Only
pub mod Sizes
pub mod Answers
