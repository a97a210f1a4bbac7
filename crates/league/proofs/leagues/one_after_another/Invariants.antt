-- The numbers so far, and those of the rows that are left, are the numbers of the table.
use Rattle.std.proofs.Common.{◌≡◌, ◌++◌, drop}
use Rattle.league.specs.Views.{rows}
use Rattle.league.specs.within.Rows.{joined}
use Rattle.league.proofs.leagues.one_after_another.Given as goal

abbrev pub invariant-loop-row : goal.invariant-loop-row
invariant-loop-row l = l.numbers.items ++ joined (rows (drop l.row-index l.table)) ≡ joined (rows l.table)
