-- The ejection chains of the partial moves: the teams or rounds that follow.
pub mod Added
pub mod EjectedTeams
pub mod EjectedRounds
pub mod MetIn
