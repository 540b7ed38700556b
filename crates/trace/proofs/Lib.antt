pub mod TraceLaws
pub mod WaveLaws
pub mod WidthLaws
pub mod OpenTraceLaws
