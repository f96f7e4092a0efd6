pub mod Plain
pub mod Premises
pub mod Agree
