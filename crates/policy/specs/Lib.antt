pub mod Limits
pub mod Legs
pub mod Bouts
pub mod FirstHalf
pub mod Plan
pub mod Waves
pub mod Policy
pub mod within
