pub mod Bracket
pub mod Told
