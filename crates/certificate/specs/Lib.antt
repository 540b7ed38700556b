pub mod Held
pub mod Numbers
pub mod Texts
pub mod Reading
pub mod Refusals
pub mod Streams
pub mod Writing
