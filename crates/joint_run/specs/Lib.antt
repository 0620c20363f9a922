pub mod Payload
pub mod Party
pub mod Joint
pub mod Honest
pub mod Parts
pub mod Laws
pub mod Uses
