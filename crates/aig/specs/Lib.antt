pub mod Delta
pub mod Lines
pub mod Sections
pub mod Binary
pub mod Whole
pub mod Refusals
pub mod Writing
pub mod WriteRefusals
