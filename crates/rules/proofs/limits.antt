-- How great a deviation and its part can be.
pub mod Largest
pub mod Limits
pub mod PartLimits
