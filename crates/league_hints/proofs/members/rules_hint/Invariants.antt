-- No rule so far is wrong.
use Rattle.std.proofs.Common.{◌≡◌, None}
use Rattle.serde_json.specs.View.{view}
use Rattle.league_hints.specs.Firsts.{first_below}
use Rattle.league_hints.specs.Members.{no_rule_at}
use Rattle.league_hints.proofs.members.rules_hint.Given as goal

abbrev pub invariant-loop-index : goal.invariant-loop-index
invariant-loop-index l = first_below l.index (no_rule_at (view l.rules)) ≡ None
