pub mod Stage
pub mod Rule
pub mod Plays
pub mod Seats
pub mod Judging
pub mod Ending
