pub mod Walks
pub mod Seams
pub mod SeamLaws
pub mod Boundaries
pub mod Only
