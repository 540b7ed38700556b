pub mod Answers
pub mod Branches
pub mod Full
pub mod Numbers
pub mod Parts
pub mod Values
