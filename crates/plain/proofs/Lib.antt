pub mod Chain
pub mod Meaning
pub mod Exits
pub mod Only
pub mod Same
pub mod Codes
