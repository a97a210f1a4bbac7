pub mod Streaks
pub mod Parts
pub mod CostLines
pub mod Figures
