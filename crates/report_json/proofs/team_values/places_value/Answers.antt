use Rattle.std.proofs.Common.{[], ◌∷◌}
use Rattle.report_json.specs.Parts.{counted}
use Rattle.report_json.specs.Rounds.{place_of}
use Rattle.report_json.proofs.Lists.{part_added}
use Rattle.report_json.proofs.team_values.places_value.Goals as goal

pub loop-round-preserved : goal.loop-round-preserved
loop-round-preserved c =
    part_added [] _ _ (λ round. counted (place_of c.args.schedule.now c.args.team round) ∷ []) c.loop-round.round c.loop-round.invariant
    (rw (c.from.ensures, c.place_of-place.ensures) at c.in_ok-push_value.ensures)
