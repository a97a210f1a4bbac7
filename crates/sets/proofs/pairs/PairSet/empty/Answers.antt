use Rattle.std.proofs.Common.{◌≡◌, ℕ, false, replicate, sym, subst}
use Rattle.sets.specs.Limits.{max_teams}
use Rattle.sets.specs.Pairs.{has_pair}
use Rattle.sets.specs.within.Pairs.{AreFirsts}
use Rattle.sets.proofs.PairSets.{has_no_pairs, AreFirsts-none}
use Rattle.sets.proofs.pairs.PairSet.empty.Goals as goal

pub invariant_of-result : goal.invariant_of-result
invariant_of-result c =
    subst (λ (row : ℕ). AreFirsts (replicate max_teams row) c.empty-2.result) (sym c.empty.ensures.value)
    (subst (AreFirsts (replicate max_teams 0)) (sym c.empty-2.ensures.value) AreFirsts-none)

pub returns-clause-members : goal.returns-clause-members
returns-clause-members c = λ f s.
    subst (λ (row : ℕ). has_pair (replicate max_teams row) f s ≡ false) (sym c.empty.ensures.value) (has_no_pairs f s)
