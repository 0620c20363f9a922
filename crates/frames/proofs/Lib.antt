pub mod Canonical
pub mod Cuts
pub mod Heads
pub mod Injective
pub mod Spelling
pub mod Unique
