pub mod Draws
pub mod Reported
