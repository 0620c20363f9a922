pub mod Graph
pub mod Listings
pub mod Groups
pub mod Core
pub mod Counters
pub mod Runs
