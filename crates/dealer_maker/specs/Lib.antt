pub mod Draws
