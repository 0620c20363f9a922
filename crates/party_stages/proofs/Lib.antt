pub mod Held
pub mod Lone
pub mod Next
pub mod Taking
pub mod Starting
