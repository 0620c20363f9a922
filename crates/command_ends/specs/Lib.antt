pub mod Coming
pub mod Ending
pub mod Outcome
pub mod Refusal
pub mod Settled
pub mod Steps
