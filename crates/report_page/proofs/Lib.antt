pub mod BrokenGames
pub mod Counting
pub mod Escapes
pub mod SameLists
pub mod Pushes
pub mod Rows
