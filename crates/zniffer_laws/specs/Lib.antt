pub mod Statements
pub mod Wire
