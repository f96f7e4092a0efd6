pub mod Each
pub mod Texts
pub mod Body
pub mod Parser
pub mod Frames
pub mod Rows
pub mod Pages
pub mod Room
