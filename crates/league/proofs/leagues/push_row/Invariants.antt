use Rattle.std.proofs.Common.{◌≡◌, ◌++◌, take}
use Rattle.league.proofs.leagues.push_row.Given as goal

abbrev pub invariant-loop-distance : goal.invariant-loop-distance
invariant-loop-distance l = l.numbers.items ≡ l.fn.numbers.items ++ take l.distance-index l.row
