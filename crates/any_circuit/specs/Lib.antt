pub mod Circuits
pub mod Notation
