pub mod Answers
pub mod Asks
pub mod Lawful
pub mod Laws
pub mod Places
pub mod Seats
pub mod Steps
