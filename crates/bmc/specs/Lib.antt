pub mod Depths
pub mod Times
pub mod Lines
