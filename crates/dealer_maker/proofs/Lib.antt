pub mod Drawing
pub mod Records
pub mod Honest
