pub mod Moves
pub mod ExchangeOf
pub mod Laws
