mod Cutting
mod Listing
pub mod Putting
