pub mod Puts
pub mod Decimals
pub mod Negative
pub mod Signs
