pub mod Read
pub mod Valued
pub mod Runs
pub mod Assigned
pub mod Laws
pub mod Formed
pub mod Noted
