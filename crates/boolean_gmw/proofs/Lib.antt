pub mod Xors
pub mod Recombining
mod Sharing
