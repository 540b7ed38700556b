pub mod Accepted
pub mod Causes
pub mod Numbers
pub mod Streamed
