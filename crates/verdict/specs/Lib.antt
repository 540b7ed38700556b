pub mod Asked
pub mod Causes
pub mod Numbers
pub mod Reasons
pub mod Verdicts
