pub mod Tabled
pub mod Cubed
pub mod Covered
