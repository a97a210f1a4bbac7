use Rattle.std.proofs.Common.{[], ◌∷◌}
use Rattle.report_json.specs.Rounds.{round_data}
use Rattle.report_json.proofs.Lists.{part_added}
use Rattle.report_json.proofs.game_values.rounds_value.Goals as goal

pub loop-round-preserved : goal.loop-round-preserved
loop-round-preserved c =
    part_added [] _ _ (λ round. round_data c.args.league.now c.args.schedule.now round ∷ []) c.loop-round.round c.loop-round.invariant
    (rw c.in_ok-round_value.ensures at c.in_ok-push_value.ensures)
