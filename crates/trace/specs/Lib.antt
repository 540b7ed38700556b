pub mod Lines
pub mod Widths
pub mod Traces
pub mod Waves
pub mod OpenTraces
