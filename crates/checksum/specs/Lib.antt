pub mod Sum
pub mod Division
