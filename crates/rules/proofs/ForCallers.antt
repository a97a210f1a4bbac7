-- What the crates above cite: which changes keep a deviation, that it is below its limit, and the games of a list one by one.
pub use Rattle.rules.proofs.unaltered.Untouched.{untouched_deviation}
pub use Rattle.rules.proofs.limits.Limits.{deviation_below}
pub use Rattle.rules.proofs.balances.PartsBalance.{deviation_balance}
pub use Rattle.rules.proofs.limits.PartLimits.{part_le}
pub use Rattle.rules.proofs.unaltered.NoPart.{looked_past_part, untouched_part}
pub use Rattle.rules.proofs.counted.GameCounts.{IsPair_game, count_by_more}
pub use Rattle.rules.proofs.walks.Searches.{list_any_found, list_any_not_yet}
