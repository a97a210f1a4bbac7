use Rattle.std.proofs.Common.{◌≡◌, length}
use Rattle.schedule_csv.specs.Cells.{without_front}
use Rattle.schedule_csv.proofs.cells.without_front.Given as goal

abbrev pub invariant-loop-rest : goal.invariant-loop-rest
invariant-loop-rest l = without_front l.bytes ≡ without_front l.rest

abbrev pub decreases-loop-rest : goal.decreases-loop-rest
decreases-loop-rest l = length l.rest
