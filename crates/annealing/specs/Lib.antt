pub mod Heats
pub mod Legs
pub mod Walks
pub mod within
