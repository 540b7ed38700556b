pub mod Added
pub mod Loops
pub mod Runs
pub mod Texts
