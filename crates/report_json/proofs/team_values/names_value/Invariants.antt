use Rattle.std.proofs.Common.{◌≡◌, [], ◌∷◌}
use Rattle.report_json.specs.Parts.{parts_below}
use Rattle.report_json.specs.within.Parts.{seen}
use Rattle.league.specs.League.{name_of}
use Rattle.serde_json.specs.Data.{string}
use Rattle.report_json.proofs.team_values.names_value.Given as goal

abbrev pub invariant-loop-team : goal.invariant-loop-team
invariant-loop-team l = seen l.names.items ≡ parts_below (λ team. string (name_of l.league team) ∷ []) l.team
