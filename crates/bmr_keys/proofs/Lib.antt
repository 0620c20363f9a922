pub mod Labels
pub mod Sums
pub mod Masks
pub mod KeyLists
pub mod Parts
pub mod Payloads
