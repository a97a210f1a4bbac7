-- What the crates above cite: laws of sums, of sets, of loops over sets, and of sets of pairs.
pub use Rattle.sets.proofs.Sums.{sum_below_none, sum_below_more, sum_below_same, sum_below_zero, sum_below_le}
pub use Rattle.sets.proofs.Sums.{sum_below_le_each, sum_below_add, sum_below_past, sum_below_swap, sum_below_only}
pub use Rattle.sets.proofs.Sums.{sum_below_balance, sum_where_same, sum_where_none, sum_where_all, sum_where_le}
pub use Rattle.sets.proofs.Sums.{sum_where_split, count_where_same, count_where_none, count_where_le}
pub use Rattle.sets.proofs.Sums.{sum_of_pairs_same, sum_of_pairs_le, sum_of_pairs_balance}
pub use Rattle.sets.proofs.Sums.{each_below, all_below_passes, all_below_fails, all_below_same, any_below_found, any_below_from_none}
pub use Rattle.sets.proofs.Sums.{any_below_fails, any_below_same, if_le}
pub use Rattle.sets.proofs.Bits.{has_beyond, has_all_numbers, has_both, has_with_number, le-with_number, with_number-grows}
pub use Rattle.sets.proofs.WalkedSums.{IsSumWithout, sum_without_none, sum_without_more, sum_without_all, sum_where_without}
pub use Rattle.sets.proofs.WalkedSums.{lowest_below, lowest_gone, others_kept, has_empty}
pub use Rattle.sets.proofs.PairSets.{has_no_pairs, has_with_pair, same_sets}

-- what a loop over the numbers below n begins with, and what a step adds
pub ruleset sums = (sum_below_none, sum_below_more)
