pub mod ByRounds
pub mod TwoTeams
pub mod MovedDelta
