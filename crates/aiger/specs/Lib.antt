pub mod Layouts
pub mod Loading
pub mod Numbers
pub mod Written
