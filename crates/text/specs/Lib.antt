pub mod Put
pub mod Texts
