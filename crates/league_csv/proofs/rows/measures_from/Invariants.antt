use Rattle.std.proofs.Common.{◌≡◌, ◌≤◌, length}
use Rattle.league.specs.Views.{texts}
use Rattle.schedule_csv.specs.Cells.{cells_left}
use Rattle.league_csv.specs.Reading.{behind}
use Rattle.league_csv.specs.Rows.{measures_from}
use Rattle.league_csv.proofs.rows.measures_from.Given as goal

abbrev pub invariant-loop-cell : goal.invariant-loop-cell
invariant-loop-cell l = record {
  same : measures_from l.head.separator l.head.in_column (texts l.head.names.now) l.row.line l.row.team 0 (cells_left l.head.separator l.cells)
      ≡ behind l.measures.items
      (measures_from l.head.separator l.head.in_column (texts l.head.names.now) l.row.line l.row.team l.other (cells_left l.head.separator l.rest));
  within : l.other ≤ length (texts l.head.names.now);
}

abbrev pub decreases-loop-cell : goal.decreases-loop-cell
decreases-loop-cell l = length (cells_left l.head.separator l.rest)
