pub mod PinTable
pub mod Retraced
pub mod Kept
