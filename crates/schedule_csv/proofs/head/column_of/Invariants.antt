use Rattle.std.proofs.Common.{◌≡◌, ◌≤◌, ◌+◌, length}
use Rattle.schedule_csv.specs.Cells.{cells, cells_left}
use Rattle.schedule_csv.specs.Head.{column_from, column_of}
use Rattle.schedule_csv.proofs.head.column_of.Given as goal

abbrev pub invariant-loop-cell : goal.invariant-loop-cell
invariant-loop-cell l = record {
  same : column_of l.name (cells l.separator l.line) ≡ column_from l.name l.index (cells_left l.separator l.rest);
  few : l.index + length (cells_left l.separator l.rest) ≤ length l.line + 1;
}

abbrev pub decreases-loop-cell : goal.decreases-loop-cell
decreases-loop-cell l = length (cells_left l.separator l.rest)
