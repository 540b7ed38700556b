pub mod TextLaws
pub mod LineLaws
pub mod StreamLaws
pub mod Trials
pub mod TextFound
