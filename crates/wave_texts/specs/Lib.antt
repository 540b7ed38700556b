pub mod Changes
pub mod Scopes
pub mod Variables
