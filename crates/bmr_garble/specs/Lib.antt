pub mod Laws
pub mod Product
pub mod Table
