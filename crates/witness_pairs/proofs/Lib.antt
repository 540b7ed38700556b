pub mod Drafted
pub mod Seen
