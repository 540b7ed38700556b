pub mod Reading
pub mod Refusals
pub mod Streams
pub mod Found
