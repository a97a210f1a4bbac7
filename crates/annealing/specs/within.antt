pub mod Units
pub mod Heats
pub mod Weights
pub mod Blocks
pub mod Boards
pub mod Progress
