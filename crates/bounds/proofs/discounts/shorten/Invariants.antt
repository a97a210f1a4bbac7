use Rattle.std.proofs.Common.{◌≡◌, ℕ, ◌<◌, ◌≤◌, ◌+◌, if◌then◌else◌}
use Rattle.bounds.specs.within.Tables.{leg_at}
use Rattle.bounds.specs.within.Prices.{leads_into}
use Rattle.bounds.proofs.discounts.shorten.Given as goal

abbrev pub invariant-loop-to : goal.invariant-loop-to
invariant-loop-to l = record {
  shorter : (from t : ℕ) → from < l.traveller.teams → t < l.to →
      leg_at l.legs from t + (if leads_into l.set from t then l.price else 0) ≡ leg_at l.initial.legs from t;
  rest : (from t : ℕ) → from < l.traveller.teams → l.to ≤ t → leg_at l.legs from t ≡ leg_at l.initial.legs from t;
}
