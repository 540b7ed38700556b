pub mod Denied
pub mod Pairs
pub mod Stopped
