pub mod Classed
pub mod Known
pub mod Paired
