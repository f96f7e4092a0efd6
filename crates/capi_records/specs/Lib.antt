pub mod Opens
pub mod Records
