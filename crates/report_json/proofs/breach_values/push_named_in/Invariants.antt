use Rattle.std.proofs.Common.{◌≡◌, ◌++◌}
use Rattle.report_json.specs.Parts.{parts_below}
use Rattle.report_json.specs.within.Parts.{seen}
use Rattle.report_json.specs.Rules.{named_at}
use Rattle.report_json.proofs.breach_values.push_named_in.Given as goal

abbrev pub invariant-loop-team : goal.invariant-loop-team
invariant-loop-team l = seen l.games.items ≡ seen l.initial.games.items ++ parts_below (named_at l.schedule l.body l.place l.round) l.team
