-- The remarks so far, with those on the rules that are left, are those on all.
use Rattle.std.proofs.Common.{◌≡◌, ◌+◌, ◌++◌, drop}
use Rattle.serde_json.specs.View.{items_view}
use Rattle.league_hints.specs.Remarks.{rule_remarks}
use Rattle.league_hints.proofs.remarks.push_rules.Given as goal

abbrev pub invariant-loop-rule : goal.invariant-loop-rule
invariant-loop-rule l = record {
  number : l.number ≡ l.rule-index + 1;
  added : l.initial.remarks.items ++ rule_remarks 1 (items_view l.rules)
      ≡ l.remarks.items ++ rule_remarks l.number (items_view (drop l.rule-index l.rules));
}
