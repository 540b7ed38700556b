pub mod Asked
pub mod Counted
