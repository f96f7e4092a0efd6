pub mod Bundles
pub mod Examples
pub mod Heard
pub mod Beams
