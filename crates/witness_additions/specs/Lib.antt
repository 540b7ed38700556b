pub mod Agreements
pub mod Spread
pub mod Trimmings
