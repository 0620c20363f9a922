pub mod Opening
pub mod Summing
