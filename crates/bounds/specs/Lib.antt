pub mod Bounds
pub mod within
