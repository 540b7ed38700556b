pub mod Made
pub mod Carried
pub mod Numbered
pub mod Done
