use Rattle.std.proofs.Common.{arith}
use Rattle.league_csv.specs.within.Views.{rows}
use Rattle.league_csv.proofs.FirstPair.{first_is}
use Rattle.league_csv.proofs.sides.first_asymmetry.Goals as goal

pub returns-then-is_some : goal.returns-then-is_some
returns-then-is_some c =
    first_is c.args.teams (rows c.args.table.now) c.loop-k.k _ _ (rw c.from-teams.ensures at c.loop-k.invariant)
    (rw c.from-teams.ensures at c.asymmetry-found.ensures) c.if-is_some.ensures (omega (arith, rw c.from-teams.ensures at c.loop-k-test.true))
