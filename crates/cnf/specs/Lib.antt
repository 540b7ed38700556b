pub mod Clauses
pub mod Formulas
pub mod Meaning
pub mod Invariants
pub mod Unrolled
pub mod Tables
pub mod Numbers
pub mod Evidences
