pub mod Later
pub mod Leading
pub mod Led
pub mod Marked
