pub mod Clauses
pub mod Engines
pub mod Tried
pub mod TwoTimes
