pub mod Joined
pub mod Chosen
