pub mod Drafts
pub mod Pairs
pub mod Renamed
