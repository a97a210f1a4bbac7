use Rattle.std.proofs.Common.{◌≡◌, ◌&&◌, ℕ, nat_lt}
use Rattle.league.specs.Sets.{has, IsBelow}
use Rattle.report_page.specs.RuleWords.{tell_round}
use Rattle.report_page.proofs.verdicts.rounds_told.Given as goal

abbrev pub invariant-loop-round : goal.invariant-loop-round
invariant-loop-round l = record {
  members : (k : ℕ) → has l.told k ≡ (nat_lt k l.round && tell_round l.breaches k);
  below : IsBelow l.rounds l.told;
}
