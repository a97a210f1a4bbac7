pub mod Cells
pub mod Head
pub mod Names
pub mod Games
pub mod Table
pub mod within
