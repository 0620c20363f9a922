pub mod Commands
pub mod Dealer
pub mod Report
pub mod Run
pub mod Words
pub mod Parts
