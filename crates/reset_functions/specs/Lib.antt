pub mod Begun
pub mod Lines
pub mod Made
pub mod Plain
pub mod Reading
