pub mod Counts
pub mod Sendings
pub mod Pieces
