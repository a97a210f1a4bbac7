pub mod Runs
pub mod CostText
pub mod Report
pub mod Figures
pub mod within
