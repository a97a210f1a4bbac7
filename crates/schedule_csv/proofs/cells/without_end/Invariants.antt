use Rattle.std.proofs.Common.{◌≡◌, ◌≤◌, length}
use Rattle.schedule_csv.specs.Cells.{without_end}
use Rattle.schedule_csv.proofs.cells.without_end.Given as goal

abbrev pub invariant-loop-length : goal.invariant-loop-length
invariant-loop-length l = record {
  same : without_end (length l.bytes) l.bytes ≡ without_end l.length l.bytes;
  within : l.length ≤ length l.bytes;
}

abbrev pub decreases-loop-length : goal.decreases-loop-length
decreases-loop-length l = l.length
