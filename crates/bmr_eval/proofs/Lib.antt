pub mod Evaluating
pub mod Onlines
