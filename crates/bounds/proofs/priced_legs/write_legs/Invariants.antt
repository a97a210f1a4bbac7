use Rattle.std.proofs.Common.{◌≡◌, ℕ, ◌<◌}
use Rattle.bounds.specs.within.Tables.{leg_at}
use Rattle.bounds.specs.within.Entries.{whole_leg}
use Rattle.bounds.proofs.priced_legs.write_legs.Given as goal

abbrev pub invariant-loop-to : goal.invariant-loop-to
invariant-loop-to l = (from to : ℕ) → from < l.traveller.teams → to < l.to →
    leg_at l.legs from to ≡ whole_leg l.league l.traveller.home from to
