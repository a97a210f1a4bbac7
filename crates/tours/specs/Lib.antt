pub mod Tours
pub mod Streaks
pub mod Repeats
pub mod Parts
pub mod Phased
pub mod Moved
pub mod within
