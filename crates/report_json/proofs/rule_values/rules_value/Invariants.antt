use Rattle.std.proofs.Common.{◌≡◌}
use Rattle.report_json.specs.Parts.{parts_below}
use Rattle.report_json.specs.within.Parts.{seen}
use Rattle.report_json.specs.Rules.{rule_at}
use Rattle.std.specs.Prelude.{slice_get}
use Rattle.report_json.proofs.rule_values.rules_value.Given as goal

abbrev pub invariant-loop-i : goal.invariant-loop-i
invariant-loop-i l = seen l.rules.items ≡ parts_below (λ i. rule_at l.schedule i (slice_get l.league.rules i)) l.i
