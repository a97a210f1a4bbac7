use Rattle.std.proofs.Common.{◌≡◌, ◌≢◌, ℕ, ◌<◌, ◌≤◌, ◌+◌, if◌then◌else◌}
use Rattle.sets.specs.Sets.{has}
use Rattle.bounds.specs.within.Tables.{leg_at}
use Rattle.bounds.proofs.discounts.shorten_to.Given as goal

abbrev pub invariant-loop-from : goal.invariant-loop-from
invariant-loop-from l = record {
  shorter : (f : ℕ) → f < l.from → leg_at l.legs f l.to + (if has l.set f then 0 else l.price) ≡ leg_at l.initial.legs f l.to;
  rest : (f : ℕ) → f < l.fn.traveller.teams → l.from ≤ f → leg_at l.legs f l.to ≡ leg_at l.initial.legs f l.to;
  others : (f other : ℕ) → f < l.fn.traveller.teams → other ≢ l.to → leg_at l.legs f other ≡ leg_at l.initial.legs f other;
}
