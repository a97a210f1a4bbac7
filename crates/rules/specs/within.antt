pub mod HomeTables
pub mod GapTables
pub mod Walked
pub mod TeamWindows
