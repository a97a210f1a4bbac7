pub mod Walked
pub mod Moved
pub mod Delta
pub mod Exchanges
