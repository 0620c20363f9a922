pub mod Stage
pub mod ByValue
pub mod Sending
pub mod Wires
pub mod Task
pub mod Serving
pub mod Report
