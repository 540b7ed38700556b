pub mod Budget
pub mod Devices
pub mod Left
pub mod Lists
pub mod Sizes
pub mod Witness
