pub mod WitnessFiles
