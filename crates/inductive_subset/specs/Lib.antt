pub mod Guards
pub mod Subsets
