pub mod meetings
pub mod stops
pub mod balances
pub mod streaks_and_repeats
pub mod legs
pub mod exchanged_legs
pub mod moved_counts
pub mod ForCallers
