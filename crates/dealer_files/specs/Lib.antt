pub mod Checks
pub mod File
pub mod Garbling
pub mod Honest
pub mod Laws
pub mod Part
pub mod Reading
pub mod Records
