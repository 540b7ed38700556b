pub mod Searched
pub mod Shares
