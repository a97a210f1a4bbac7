use Rattle.std.proofs.Common.{◌≡◌, ◌≤◌, ◌-◌}
use Rattle.schedule_csv.specs.Cells.{cell_at, cells, cells_left}
use Rattle.schedule_csv.proofs.cells.cell_at.Given as goal

abbrev pub invariant-loop : goal.invariant-loop
invariant-loop l = record {
  same : cell_at (cells l.separator l.line) l.index ≡ cell_at (cells_left l.separator l.rest) (l.index - l.counter);
  within : l.counter ≤ l.index;
}
