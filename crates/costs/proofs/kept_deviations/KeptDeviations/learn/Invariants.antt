use Rattle.std.proofs.Common.{◌≡◌, ℕ, ◌<◌, length, slice_get, Some}
use Rattle.std.specs.Prelude.{slice_index}
use Rattle.league.specs.Limits.{max_rules}
use Rattle.league.specs.declared.rule.Rule.{Rule}
use Rattle.rules.specs.Deviations.{deviation}
use Rattle.costs.proofs.kept_deviations.KeptDeviations.learn.Given as goal

abbrev pub invariant-loop-i : goal.invariant-loop-i
invariant-loop-i l = record {
  next_length : length l.self.next ≡ max_rules;
  kept_length : length l.self.kept ≡ max_rules;
  kept : (k : ℕ) (rule : Rule) → k < l.i → slice_get l.league.rules k ≡ Some rule → slice_index l.self.kept k ≡ deviation l.schedule rule.body;
}
