pub mod States
pub mod Replies
pub mod Queries
pub mod Contents
pub mod Readings
pub mod Steps
