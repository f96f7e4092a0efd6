pub mod Exits
pub mod Opens
pub mod Only
pub mod Exact
pub mod Laws
