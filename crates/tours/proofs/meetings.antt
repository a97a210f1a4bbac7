-- Who meets whom: sums over partners, opponents, and pairs counted at their higher team.
pub mod Partners
pub mod Opponents
pub mod HigherTeams
pub mod Members
