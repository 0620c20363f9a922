pub mod Circuit
pub mod Eval
pub mod Language
pub mod Operands
pub mod Table
pub mod Valid
pub mod Wide
