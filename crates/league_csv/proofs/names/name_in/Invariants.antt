use Rattle.std.proofs.Common.{◌≡◌, ◌++◌, length}
use Rattle.league_csv.specs.Names.{name_in, single_marks}
use Rattle.league_csv.proofs.names.name_in.Given as goal

abbrev pub invariant-loop-rest : goal.invariant-loop-rest
invariant-loop-rest l = name_in l.cell ≡ l.name.items ++ single_marks l.behind_mark l.rest

abbrev pub decreases-loop-rest : goal.decreases-loop-rest
decreases-loop-rest l = length l.rest
