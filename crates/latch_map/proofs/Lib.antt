pub mod Tables
pub mod Said
pub mod Noted
pub mod Lines
pub mod Runs
