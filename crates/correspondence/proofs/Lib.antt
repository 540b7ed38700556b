pub mod First
pub mod Sound
pub mod Asked
pub mod Carried
