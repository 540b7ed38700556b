pub mod Judged
pub mod Laws
pub mod Numbers
