pub mod Breaches
pub mod Cells
pub mod BreachText
pub mod within
