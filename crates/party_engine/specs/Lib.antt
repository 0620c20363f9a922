pub mod Reporting
pub mod Rest
pub mod Run
pub mod Saying
