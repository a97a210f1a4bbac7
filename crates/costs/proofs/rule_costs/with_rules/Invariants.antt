use Rattle.std.proofs.Common.{◌≡◌, ℕ, ◌||◌, Bool, true, false, length}
use Rattle.league.specs.Limits.{max_rules}
use Rattle.league.specs.Sets.{has}
use Rattle.costs.specs.within.KeptDeviations.{AreRests, IsKeptOf}
use Rattle.costs.proofs.Partial.{IsCountedWithout, IsNoMore}
use Rattle.costs.proofs.rule_costs.with_rules.Given as goal

abbrev pub invariant-loop-i : goal.invariant-loop-i
invariant-loop-i l = record {
  counted : IsCountedWithout l.league l.scope l.schedule l.fn.rules l.fn.before l.i-iterator l.cost;
  no_more : IsNoMore l.league l.scope.attempt.weights l.schedule l.cost;
  same : IsKeptOf l.deviations l.fn.deviations;
  next_length : length l.deviations.next ≡ max_rules;
  within : (i : ℕ) → has l.i-iterator i ≡ true → has l.fn.rules i ≡ true;
  rests : (others : ℕ → Bool) → ((i : ℕ) → has l.fn.rules i ≡ true → others i ≡ false) →
      (l.fn.deviations.is_known ≡ true →
      AreRests l.league.rules l.scope (λ i. has l.fn.rules i || others i) l.schedule l.fn.deviations.kept l.fn.deviations.next) →
      l.deviations.is_known ≡ true →
      AreRests l.league.rules l.scope (λ i. has l.i-iterator i || others i) l.schedule l.deviations.kept l.deviations.next;
}
