pub mod Shares
pub mod Sharing
pub mod Laws
