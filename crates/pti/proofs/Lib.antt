pub mod Framing
pub mod Mpdus
pub mod Figures
pub mod Only
