pub mod Frames
pub mod Rows
pub mod Told
