pub mod Shrunk
pub mod Making
pub mod Hashed
pub mod Carriable
pub mod Ready
