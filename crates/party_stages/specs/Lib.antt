pub mod Following
pub mod Scene
