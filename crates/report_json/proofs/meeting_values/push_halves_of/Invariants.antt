use Rattle.std.proofs.Common.{◌≡◌, ◌++◌}
use Rattle.report_json.specs.Parts.{parts_below}
use Rattle.report_json.specs.within.Parts.{seen}
use Rattle.report_json.specs.Sides.{half_at}
use Rattle.report_json.proofs.meeting_values.push_halves_of.Given as goal

abbrev pub invariant-loop-low : goal.invariant-loop-low
invariant-loop-low l = seen l.halves.items ≡ seen l.initial.halves.items ++ parts_below (half_at l.schedule l.high) l.low
