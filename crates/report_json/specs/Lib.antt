pub mod Parts
pub mod Labels
pub mod Rounds
pub mod Sides
pub mod Rules
pub mod JsonReport
pub mod within
