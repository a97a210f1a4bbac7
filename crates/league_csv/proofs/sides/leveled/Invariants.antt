use Rattle.std.proofs.Common.{◌≡◌, map}
use Rattle.std.specs.List.{range_with_len}
use Rattle.league_csv.specs.Sides.{leveled_row}
use Rattle.league_csv.specs.within.Views.{number_rows, rows}
use Rattle.league_csv.proofs.sides.leveled.Given as goal

abbrev pub invariant-loop-a : goal.invariant-loop-a
invariant-loop-a l = number_rows l.distances.items ≡ map (leveled_row l.choice l.teams (rows l.table)) (range_with_len 0 l.a)
