pub mod Opening
pub mod Next
pub mod Whole
pub mod Exactly
