pub mod Sound
pub mod Queue
pub mod Cubes
pub mod Answers
pub mod Candidates
