pub mod Line
pub mod Says
pub mod Grammar
pub mod Stated
pub mod Written
pub mod Rows
pub mod Names
