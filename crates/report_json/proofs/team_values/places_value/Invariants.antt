use Rattle.std.proofs.Common.{◌≡◌, [], ◌∷◌}
use Rattle.report_json.specs.Parts.{counted, parts_below}
use Rattle.report_json.specs.within.Parts.{seen}
use Rattle.report_json.specs.Rounds.{place_of}
use Rattle.report_json.proofs.team_values.places_value.Given as goal

abbrev pub invariant-loop-round : goal.invariant-loop-round
invariant-loop-round l = seen l.places.items ≡ parts_below (λ round. counted (place_of l.schedule l.team round) ∷ []) l.round
