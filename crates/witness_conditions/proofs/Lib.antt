pub mod Asked
pub mod Next
