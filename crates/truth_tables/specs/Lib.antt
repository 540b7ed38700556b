pub mod Cubes
pub mod Tables
pub mod Covers
