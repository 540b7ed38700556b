pub mod Numbers
pub mod Refusals
pub mod Reading
pub mod Texts
pub mod Plas
pub mod PlaReading
