-- Where a team is, and sets cut off at the end of the teams or of the season.
pub mod Stops
pub mod SetsInSeason
