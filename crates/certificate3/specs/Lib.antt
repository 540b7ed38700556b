pub mod Formats
pub mod Laws
pub mod Limits
pub mod Reading
pub mod Texts
pub mod Writing
