pub mod OneBad
pub mod Steps
