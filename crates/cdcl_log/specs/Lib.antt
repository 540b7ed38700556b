pub mod Logged
pub mod Keeping
pub mod Selected
pub mod Units
pub mod Refuting
pub mod Closings
