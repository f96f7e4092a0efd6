pub mod Halvings
pub mod Walks
pub mod Exits
pub mod Only
pub mod Agree
pub mod Driven
pub mod Laws
