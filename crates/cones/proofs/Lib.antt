pub mod Ordered
pub mod Lifted
pub mod Existing
pub mod Assigned
pub mod Growing
pub mod Tabled
pub mod Grown
