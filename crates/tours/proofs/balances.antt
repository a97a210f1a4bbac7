-- What a change adds to a part, it adds to the whole.
pub mod Balances
pub mod TravelBalance
pub mod StreaksBalance
pub mod PhasedBalance
pub mod RepeatsBalance
