mod BoardLaws
pub mod Counts
mod Views
mod Steps
mod Turns
mod Seating
mod Ends
mod Betweens
pub mod ForCallers
