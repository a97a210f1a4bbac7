-- The laws of the five moves, from those of their exchanges.
pub mod Checked
pub mod WholeMoves
pub mod PartMoves
pub mod MovesAsExchanges
pub mod EachMove
