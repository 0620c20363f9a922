pub mod Found
pub mod Keeping
pub mod Places
pub mod Runs
pub mod Totals
pub mod Vectors
