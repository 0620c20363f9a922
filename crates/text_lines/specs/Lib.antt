pub mod Text
pub mod Word
pub mod Chain
pub mod LineReader
pub mod Gives
