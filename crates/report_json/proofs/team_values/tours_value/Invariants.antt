use Rattle.std.proofs.Common.{◌≡◌, [], ◌∷◌}
use Rattle.report_json.specs.Parts.{parts_below}
use Rattle.report_json.specs.within.Parts.{seen}
use Rattle.report_json.specs.Rounds.{tour_data}
use Rattle.report_json.proofs.team_values.tours_value.Given as goal

abbrev pub invariant-loop-team : goal.invariant-loop-team
invariant-loop-team l = seen l.tours.items ≡ parts_below (λ team. tour_data l.league l.schedule team ∷ []) l.team
