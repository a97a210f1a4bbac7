use Rattle.std.proofs.Common.{[], ◌∷◌}
use Rattle.league.specs.League.{name_of}
use Rattle.serde_json.specs.Data.{string}
use Rattle.report_json.proofs.Lists.{part_added}
use Rattle.report_json.proofs.team_values.names_value.Goals as goal

pub loop-team-preserved : goal.loop-team-preserved
loop-team-preserved c =
    part_added [] _ _ (λ team. string (name_of c.args.league.now team) ∷ []) c.loop-team.team c.loop-team.invariant
    (rw (c.in_ok-try_from_str.ensures, c.name.ensures) at c.in_ok-push_value.ensures)
