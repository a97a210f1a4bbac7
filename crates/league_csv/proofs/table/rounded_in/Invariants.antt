use Rattle.std.proofs.Common.{◌≡◌, ◌+◌, length}
use Rattle.league_csv.specs.League.{rounded_in}
use Rattle.league_csv.specs.within.Views.{rows}
use Rattle.league_csv.proofs.table.rounded_in.Given as goal

abbrev pub invariant-loop-rest : goal.invariant-loop-rest
invariant-loop-rest l = rounded_in (rows l.table) ≡ l.rounded + rounded_in (rows l.rest)

abbrev pub decreases-loop-rest : goal.decreases-loop-rest
decreases-loop-rest l = length l.rest
