pub mod JsonReport
pub mod Parts
