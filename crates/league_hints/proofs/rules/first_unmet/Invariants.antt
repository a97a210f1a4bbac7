-- The needs that are left decide.
use Rattle.std.proofs.Common.{◌≡◌, drop}
use Rattle.serde_json.specs.View.{view}
use Rattle.league_hints.specs.Rules.{first_unmet}
use Rattle.league_hints.proofs.rules.first_unmet.Given as goal

abbrev pub invariant-loop-need : goal.invariant-loop-need
invariant-loop-need l = first_unmet l.roster (view l.rule) (drop l.need-index l.needs) ≡ first_unmet l.roster (view l.rule) l.needs
