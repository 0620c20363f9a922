mod Clap
mod CodeSteps
mod Cutting
mod Filling
mod Numbers
mod Options
pub mod Reading
mod Says
mod Spelling
mod Steps
