use Rattle.std.proofs.Common.{arith}
use Rattle.std.proofs.lemmas.Grind.{common_steps}
use Rattle.league.proofs.Rows.{get_or-rows}
use Rattle.league.proofs.checks.distance_at.Goals as goal

pub index-requires : goal.index-requires
index-requires c = grind (arith, common_steps, get_or-rows)

pub returns : goal.returns
returns c = grind (arith, common_steps, get_or-rows)
