use Rattle.std.proofs.Common.{◌≡◌, take}
use Rattle.league.proofs.leagues.duplicate_rules.Given as goal

abbrev pub invariant-loop-rule : goal.invariant-loop-rule
invariant-loop-rule l = l.copy.items ≡ take l.rule-index l.rules
