pub mod Cause
pub mod Hints
