use Rattle.std.proofs.Common.{◌≡◌, map}
use Rattle.std.specs.List.{range_with_len}
use Rattle.league.specs.Made.{made_row}
use Rattle.league.specs.Views.{rows}
use Rattle.league.proofs.made.made_rows.Given as goal

abbrev pub invariant-loop-a : goal.invariant-loop-a
invariant-loop-a l = rows l.table.items ≡ map (made_row l.layout l.n) (range_with_len 0 l.a)
