pub mod Completions
pub mod Cutting
pub mod Lassos
pub mod Strict
pub mod Cleared
pub mod Numbers
pub mod Texts
