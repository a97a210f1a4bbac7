use Rattle.std.proofs.Common.{◌≡◌}
use Rattle.report_json.specs.Parts.{parts_below}
use Rattle.report_json.specs.within.Parts.{seen}
use Rattle.report_json.specs.Rules.{named_in}
use Rattle.report_json.proofs.breach_values.games_value.Given as goal

abbrev pub invariant-loop-round : goal.invariant-loop-round
invariant-loop-round l = seen l.games.items ≡ parts_below (named_in l.schedule l.body l.place) l.round
