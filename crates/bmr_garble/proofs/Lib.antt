pub mod Products
pub mod Joining
pub mod Tables
