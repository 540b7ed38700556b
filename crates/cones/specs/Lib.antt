pub mod Marks
pub mod Partial
pub mod Reach
