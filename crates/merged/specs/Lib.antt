pub mod Reading
pub mod Merged
pub mod Laws
