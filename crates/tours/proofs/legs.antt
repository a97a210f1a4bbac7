-- Legs as a walk meets them: own ones, and those of guests.
pub mod TravelWalk
pub mod GuestLegs
pub mod GuestSteps
pub mod TwoTotals
