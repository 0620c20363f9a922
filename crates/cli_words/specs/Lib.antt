pub mod Canon
pub mod Filled
pub mod Grammar
pub mod Laws
pub mod Pass
pub mod Request
pub mod Table
