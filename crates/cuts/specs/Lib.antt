pub mod Cuts
pub mod Joining
