pub mod Fit
pub mod Inbox
pub mod Kept
pub mod Runs
pub mod Slots
