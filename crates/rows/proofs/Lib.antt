pub mod Goes
pub mod Pti
pub mod Zniffer
pub mod Walk
pub mod Inside
pub mod Only
