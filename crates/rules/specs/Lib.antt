pub mod Deviations
pub mod Laws
pub mod LooksPast
pub mod Parts
pub mod Touches
pub mod within
