pub mod Numbers
pub mod Limit
