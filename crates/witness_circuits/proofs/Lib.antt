pub mod Rows
pub mod Unmade
pub mod Values
