pub mod Agreed
pub mod Spread
