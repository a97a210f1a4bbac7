use Rattle.std.proofs.Common.{◌≡◌, ◌&&◌, ℕ, nat_lt}
use Rattle.league.specs.Sets.{has, IsBelow}
use Rattle.report_page.specs.RuleWords.{tell_team}
use Rattle.report_page.proofs.verdicts.teams_told.Given as goal

abbrev pub invariant-loop-team : goal.invariant-loop-team
invariant-loop-team l = record {
  members : (k : ℕ) → has l.told k ≡ (nat_lt k l.team && tell_team l.breaches k);
  below : IsBelow l.teams l.told;
}
