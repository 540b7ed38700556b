pub mod Words
pub mod Batches
pub mod Findings
pub mod Settings
