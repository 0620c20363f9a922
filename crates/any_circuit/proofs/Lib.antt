pub mod CircuitLemmas
pub mod TellingLemmas
