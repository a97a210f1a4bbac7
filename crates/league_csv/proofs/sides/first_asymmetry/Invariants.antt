use Rattle.std.proofs.Common.{◌≡◌, None}
use Rattle.league_csv.specs.Sides.{asymmetry_below}
use Rattle.league_csv.specs.within.Views.{rows}
use Rattle.league_csv.proofs.sides.first_asymmetry.Given as goal

abbrev pub invariant-loop-k : goal.invariant-loop-k
invariant-loop-k l = asymmetry_below l.teams (rows l.table) l.k ≡ None
