pub mod Depths
pub mod Found
pub mod Lined
mod Answering
