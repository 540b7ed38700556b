pub mod Kept
pub mod ClauseRefs
pub mod Known
pub mod Inside
pub mod Forgotten
pub mod Valued
pub mod Verdicts
