pub mod Lists
pub mod Open
pub mod Pieces
pub mod Shelves
pub mod Storing
pub mod Walks
pub mod Writing
