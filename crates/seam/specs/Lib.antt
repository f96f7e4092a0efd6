pub mod Walk
pub mod Opening
pub mod Seam
