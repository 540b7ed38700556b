pub mod Starts
pub mod Refusals
pub mod Replays
pub mod Lanes
pub mod Wides
