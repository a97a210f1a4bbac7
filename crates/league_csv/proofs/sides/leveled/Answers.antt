use Rattle.std.proofs.lemmas.List.FromFn.{map-range_with_len_more}
use Rattle.std.proofs.lemmas.Grind.{common_steps}
use Rattle.std.proofs.Common.{arith, zero-add}
use Rattle.league_csv.specs.Sides.{leveled_row}
use Rattle.league_csv.specs.within.Views.{rows}
use Rattle.league_csv.proofs.sides.leveled.Goals as goal

pub loop-a-preserved : goal.loop-a-preserved
loop-a-preserved c =
    rw (map-range_with_len_more (leveled_row c.args.choice c.args.teams (rows c.args.table.now)) 0 c.loop-a.a c.loop-a.a (zero-add c.loop-a.a))
    (grind (arith, common_steps))
