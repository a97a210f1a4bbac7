use Rattle.std.proofs.Common.{◌≡◌, ◌++◌}
use Rattle.report_json.specs.Parts.{parts_below}
use Rattle.report_json.specs.within.Parts.{seen}
use Rattle.report_json.specs.Sides.{halves_of}
use Rattle.report_json.proofs.meeting_values.push_halves.Given as goal

abbrev pub invariant-loop-high : goal.invariant-loop-high
invariant-loop-high l = seen l.halves.items ≡ seen l.initial.halves.items ++ parts_below (halves_of l.schedule) l.high
