pub mod AddingUp
pub mod Largest
pub mod HomeGames
pub mod Counting
pub mod Amounts
pub mod Naming
pub mod Rows
