pub mod Closed
mod Made
pub mod Pairs
pub mod Stopped
mod Shown
