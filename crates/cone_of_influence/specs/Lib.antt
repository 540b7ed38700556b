pub mod Numbers
pub mod Reduced
pub mod Laws
pub mod Answered
