-- Streaks and repeats after an exchange, predicted on the schedule before it.
pub mod StreakStarts
pub mod StreaksDelta
pub mod RepeatsDelta
pub mod EdgeRepeats
