use Rattle.std.proofs.Common.{◌≡◌, vec_len, length}
use Rattle.bounds.specs.within.Entries.{IsScaledBound}
use Rattle.bounds.proofs.team_bound.best_of_rounds.Given as goal

abbrev pub invariant-loop-needed : goal.invariant-loop-needed
invariant-loop-needed l = vec_len l.averages ≡ l.needed-index

abbrev pub invariant-loop : goal.invariant-loop
invariant-loop l = record {
  bound : IsScaledBound l.league l.traveller.home l.sets l.entries l.best;
  prices : vec_len l.prices ≡ length l.sets;
  averages : vec_len l.averages ≡ length l.sets;
}
