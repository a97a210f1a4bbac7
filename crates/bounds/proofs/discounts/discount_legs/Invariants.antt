use Rattle.std.proofs.Common.{◌≡◌, ℕ, ◌<◌, ◌+◌}
use Rattle.bounds.specs.within.Tables.{leg_at}
use Rattle.bounds.specs.within.Prices.{discount}
use Rattle.bounds.proofs.discounts.discount_legs.Given as goal

abbrev pub invariant-loop-k : goal.invariant-loop-k
invariant-loop-k l = (from to : ℕ) → from < l.traveller.teams → to < l.traveller.teams →
    leg_at l.legs from to + discount l.sets l.prices l.k from to ≡ leg_at l.initial.legs from to
