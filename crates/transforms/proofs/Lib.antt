pub mod Over
pub mod Followed
pub mod Standing
