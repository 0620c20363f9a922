pub mod Apart
pub mod Asked
pub mod Benches
pub mod Counts
pub mod Keeps
pub mod Totals
