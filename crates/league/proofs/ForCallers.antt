-- What the crates above cite: the start of a league, and the laws of sets and sums below.
pub use Rattle.league.proofs.Beginnings.{round_robin_start, round_of_start, kept_pair, origin_for_none}
pub use Rattle.sets.proofs.ForCallers.{has_no_pairs, has_with_pair, same_sets}
pub use Rattle.sets.proofs.ForCallers.{sum_below_none, sum_below_more, sum_below_same, sum_below_zero, sum_below_le}
pub use Rattle.sets.proofs.ForCallers.{sum_below_le_each, sum_below_add, sum_below_past, sum_below_swap, sum_below_only}
pub use Rattle.sets.proofs.ForCallers.{sum_below_balance, sum_where_same, sum_where_none, sum_where_all, sum_where_le}
pub use Rattle.sets.proofs.ForCallers.{sum_where_split, count_where_same, count_where_none, count_where_le, sum_of_pairs_same}
pub use Rattle.sets.proofs.ForCallers.{sum_of_pairs_le, sum_of_pairs_balance, each_below, all_below_passes, all_below_fails}
pub use Rattle.sets.proofs.ForCallers.{all_below_same, any_below_found, any_below_from_none, any_below_fails, any_below_same}
pub use Rattle.sets.proofs.ForCallers.{has_beyond, has_all_numbers, has_both, has_with_number, le-with_number, with_number-grows}
pub use Rattle.sets.proofs.ForCallers.{IsSumWithout, sum_without_none, sum_without_more, sum_without_all, lowest_below}
pub use Rattle.sets.proofs.ForCallers.{lowest_gone, others_kept, has_empty, if_le, sum_where_without, sums}
