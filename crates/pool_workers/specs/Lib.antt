pub mod Sums
pub mod Words
pub mod Slots
pub mod Steps
pub mod Shifts
