pub mod Choice
pub mod Only
pub mod Laid
pub mod Flat
