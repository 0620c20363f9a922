pub mod Places
pub mod Listed
mod Rows
pub mod Events
pub mod Order
pub mod Counts
pub mod Ties
pub mod Leaving
pub mod Draining
pub mod Groupings
pub mod Fresh
pub mod Sound
