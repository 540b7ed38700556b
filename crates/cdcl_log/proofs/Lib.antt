pub mod Logged
pub mod Sections
pub mod Selecting
pub mod Ended
pub mod Few
pub mod Closings
