pub mod Scorings
pub mod SeatLaws
pub mod Chains
pub mod Credited
pub mod Hearing
pub mod Reporting
