pub mod Sums
pub mod Recombining
mod Sharing
