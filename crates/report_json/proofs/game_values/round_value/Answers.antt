use Rattle.std.proofs.Common.{[]}
use Rattle.report_json.specs.Rounds.{game_at}
use Rattle.report_json.proofs.Lists.{part_added}
use Rattle.report_json.proofs.game_values.round_value.Goals as goal

pub loop-team-preserved : goal.loop-team-preserved
loop-team-preserved c =
    part_added [] _ _ (game_at c.args.league.now c.args.schedule.now c.args.round) c.loop-team.team c.loop-team.invariant
    (c.in_ok-push_game_at.ensures)
