pub mod Moves
mod Shelving
pub mod Turning
