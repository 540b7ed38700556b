pub mod AnyVersion
pub mod Lines
pub mod Numbers
pub mod Readers
pub mod Replayed
pub mod AnswerErrors
pub mod Verdicts
