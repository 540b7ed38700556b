pub mod Causes
pub mod Counted
pub mod Cones
pub mod Extracted
pub mod Shadowed
