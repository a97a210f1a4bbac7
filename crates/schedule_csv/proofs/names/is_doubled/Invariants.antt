use Rattle.std.proofs.Common.{◌≡◌, length}
use Rattle.std.specs.Str.{bytes_eq}
use Rattle.schedule_csv.specs.Names.{doubled}
use Rattle.schedule_csv.proofs.names.is_doubled.Given as goal

abbrev pub invariant-loop-name : goal.invariant-loop-name
invariant-loop-name l = bytes_eq l.text (doubled l.name-2) ≡ bytes_eq l.rest (doubled l.name)

abbrev pub decreases-loop-name : goal.decreases-loop-name
decreases-loop-name l = length l.name
