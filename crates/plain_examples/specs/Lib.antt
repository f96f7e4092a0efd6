pub mod Traces
pub mod Differ
