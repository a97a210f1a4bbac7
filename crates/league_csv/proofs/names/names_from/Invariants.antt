use Rattle.std.proofs.Common.{◌≡◌, ◌≤◌, ◌+◌, ◌^◌, length}
use Rattle.league.specs.Views.{texts}
use Rattle.schedule_csv.specs.Cells.{cells_left}
use Rattle.league_csv.specs.Names.{names_from}
use Rattle.league_csv.specs.Reading.{behind}
use Rattle.league_csv.proofs.names.names_from.Given as goal

abbrev pub invariant-loop-cell : goal.invariant-loop-cell
invariant-loop-cell l = record {
  same : names_from l.line l.first (cells_left l.separator l.cells) ≡ behind (texts l.names.items) (names_from l.line l.column (cells_left l.separator l.rest));
  few : l.column + length (cells_left l.separator l.rest) ≤ 2 ^ 63;
}

abbrev pub decreases-loop-cell : goal.decreases-loop-cell
decreases-loop-cell l = length (cells_left l.separator l.rest)
