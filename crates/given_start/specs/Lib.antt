pub mod Begun
pub mod within
