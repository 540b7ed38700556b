pub mod Bits
pub mod Columns
pub mod Loops
pub mod OpenRows
pub mod OpenValues
pub mod Signals
