pub mod Page
pub mod Plan
