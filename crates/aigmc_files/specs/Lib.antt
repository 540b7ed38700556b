pub mod Numbers
pub mod ExitErrors
