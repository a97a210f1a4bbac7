use Rattle.std.proofs.Common.{◌≡◌, [], ◌∷◌}
use Rattle.report_json.specs.Parts.{parts_below}
use Rattle.report_json.specs.within.Parts.{seen}
use Rattle.report_json.specs.Rounds.{round_data}
use Rattle.report_json.proofs.game_values.rounds_value.Given as goal

abbrev pub invariant-loop-round : goal.invariant-loop-round
invariant-loop-round l = seen l.rounds.items ≡ parts_below (λ round. round_data l.league l.schedule round ∷ []) l.round
