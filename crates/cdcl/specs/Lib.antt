pub mod Refutations
pub mod Solving
