pub mod Names
pub mod Order
