pub mod BitLaws
pub mod Bits
pub mod Keys
pub mod Needs
pub mod PartyLaws
pub mod Sums
pub mod Wires
