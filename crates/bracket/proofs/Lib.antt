pub mod Walks
pub mod Steps
pub mod Splitting
pub mod Figures
pub mod Only
