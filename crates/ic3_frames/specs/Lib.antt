pub mod Frames
pub mod Resets
pub mod Clauses
pub mod Marks
pub mod Signatures
pub mod FailedPushes
