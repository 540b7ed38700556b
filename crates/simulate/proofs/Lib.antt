pub mod Taking
pub mod LaneLaws
pub mod WideLaws
pub mod Refilled
pub mod Sorted
