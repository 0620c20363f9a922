pub mod BitsLemmas
pub mod Parties
