use Rattle.std.proofs.lemmas.List.FromFn.{map-range_with_len_more}
use Rattle.std.proofs.lemmas.Grind.{common_steps}
use Rattle.std.proofs.Common.{arith, zero-add}
use Rattle.league.specs.Made.{made_name}
use Rattle.league.proofs.made.made_names.Goals as goal

pub loop-team-preserved : goal.loop-team-preserved
loop-team-preserved c =
    rw (map-range_with_len_more made_name 0 c.loop-team.team c.loop-team.team (zero-add c.loop-team.team)) (grind (arith, common_steps))
