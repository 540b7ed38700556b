pub mod ChangeLaws
pub mod ScopeLaws
pub mod TextLaws
pub mod VariableLaws
