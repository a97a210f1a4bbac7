use Rattle.std.proofs.Common.{◌≡◌, ◌≢◌, ℕ, ◌<◌}
use Rattle.bounds.specs.within.Tables.{leg_at}
use Rattle.bounds.specs.within.Entries.{whole_leg}
use Rattle.bounds.proofs.priced_legs.write_legs_to.Given as goal

abbrev pub invariant-loop-from : goal.invariant-loop-from
invariant-loop-from l = record {
  written : (f : ℕ) → f < l.from → leg_at l.legs f l.to ≡ whole_leg l.league l.fn.traveller.home f l.to;
  others : (f other : ℕ) → f < l.fn.traveller.teams → other ≢ l.to → leg_at l.legs f other ≡ leg_at l.initial.legs f other;
}
