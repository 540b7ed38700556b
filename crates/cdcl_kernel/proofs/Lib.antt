pub mod ClauseRefs
pub mod Follow
pub mod Valued
pub mod Judged
pub mod Among
pub mod Forgetting
pub mod Closing
