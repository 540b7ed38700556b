pub mod Tried
pub mod Decided
pub mod Looks
pub mod Branching
pub mod Followed
