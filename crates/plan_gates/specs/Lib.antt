pub mod Gate
pub mod Messages
pub mod Needs
pub mod Operands
pub mod Plain
pub mod Plan
