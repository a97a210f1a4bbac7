use Rattle.std.proofs.Common.{◌≡◌, ◌+◌, false, length}
use Rattle.schedule_csv.specs.within.Cells.{cell_length}
use Rattle.schedule_csv.proofs.cells.cell_length.Given as goal

abbrev pub invariant-loop-rest : goal.invariant-loop-rest
invariant-loop-rest l = record {
  so_far : cell_length l.separator false l.line ≡ l.length + cell_length l.separator l.inside l.rest;
  left : l.length + length l.rest ≡ length l.line;
}

abbrev pub decreases-loop-rest : goal.decreases-loop-rest
decreases-loop-rest l = length l.rest
