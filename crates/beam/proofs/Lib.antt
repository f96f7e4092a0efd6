pub mod Beats
pub mod Marker
