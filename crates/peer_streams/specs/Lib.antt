pub mod Judging
pub mod Reading
pub mod Taking
pub mod Sending
pub mod Runs
pub mod Streams
