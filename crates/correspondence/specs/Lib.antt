pub mod Equal
pub mod Found
pub mod Answered
pub mod Rounds
