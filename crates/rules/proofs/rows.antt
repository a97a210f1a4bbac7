-- Rows: of home games, of counted teams by rounds, of windows.
pub mod HomeRows
pub mod RowsByRounds
pub mod HomeTables
pub mod GapTables
pub mod FullWindows
pub mod WaitingStart
pub mod AllTeams
pub mod MetPairs
