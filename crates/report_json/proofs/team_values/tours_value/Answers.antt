use Rattle.std.proofs.Common.{[], ◌∷◌}
use Rattle.report_json.specs.Rounds.{tour_data}
use Rattle.report_json.proofs.Lists.{part_added}
use Rattle.report_json.proofs.team_values.tours_value.Goals as goal

pub loop-team-preserved : goal.loop-team-preserved
loop-team-preserved c =
    part_added [] _ _ (λ team. tour_data c.args.league.now c.args.schedule.now team ∷ []) c.loop-team.team c.loop-team.invariant
    (rw c.in_ok-tour_value.ensures at c.in_ok-push_value.ensures)
