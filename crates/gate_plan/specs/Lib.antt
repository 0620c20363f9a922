pub mod Adder
pub mod Blocks
pub mod Bristol
pub mod Convert
pub mod Keeps
pub mod Lowering
pub mod Statements
