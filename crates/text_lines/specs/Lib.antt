pub mod Words
pub mod Number
pub mod Input
pub mod Pieces
pub mod Lines
pub mod Classes
pub mod Sheet
