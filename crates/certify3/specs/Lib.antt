pub mod Causes
pub mod Numbers
pub mod Outcomes
pub mod Subjects
