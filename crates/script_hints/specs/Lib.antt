pub mod Cause
pub mod Script
pub mod Schedule
pub mod Hints
pub mod within
