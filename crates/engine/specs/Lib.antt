pub mod Bounds
pub mod Findings
pub mod InOrder
pub mod Numbers
