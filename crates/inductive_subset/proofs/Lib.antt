pub mod Guarding
pub mod Excluding
pub mod Kept
pub mod Longer
pub mod Possible
