pub mod Valued
pub mod Defaults
