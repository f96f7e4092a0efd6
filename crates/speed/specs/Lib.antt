pub mod Chart
pub mod Speed
