pub mod Outcomes
pub mod Repeated
pub mod Stopped
pub mod Subjects
pub mod Texts
