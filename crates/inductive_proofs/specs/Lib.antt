pub mod Counterexamples
pub mod ProveErrors
