pub mod Shadow
pub mod Laws
pub mod Numbers
pub mod Causes
