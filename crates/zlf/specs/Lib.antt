pub mod Chart
pub mod Facts
pub mod Refusals
pub mod Totals
