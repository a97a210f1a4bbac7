use Rattle.std.proofs.lemmas.List.FromFn.{map-range_with_len_more}
use Rattle.std.proofs.lemmas.Grind.{common_steps}
use Rattle.std.proofs.Common.{arith, zero-add}
use Rattle.league.specs.Made.{made_row}
use Rattle.league.proofs.made.made_rows.Goals as goal

pub loop-a-preserved : goal.loop-a-preserved
loop-a-preserved c =
    rw (map-range_with_len_more (made_row c.args.layout c.args.n) 0 c.loop-a.a c.loop-a.a (zero-add c.loop-a.a))
    (grind (arith, common_steps))
