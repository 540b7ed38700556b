pub mod Causes
pub mod Names
pub mod Witnesses
