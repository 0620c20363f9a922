pub mod Hiding
pub mod Laws
pub mod Mask
pub mod Payload
pub mod Wires
