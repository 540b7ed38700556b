pub mod Encodings
pub mod Demands
pub mod Merged
pub mod Cones
pub mod Unrollings
pub mod Times
