use Rattle.std.proofs.Common.{◌≡◌, ◌++◌}
use Rattle.report_json.specs.Parts.{parts_below}
use Rattle.report_json.specs.within.Parts.{seen}
use Rattle.report_json.specs.Sides.{repeats_after}
use Rattle.report_json.proofs.meeting_values.push_repeats.Given as goal

abbrev pub invariant-loop-round : goal.invariant-loop-round
invariant-loop-round l = seen l.repeats.items ≡ seen l.initial.repeats.items ++ parts_below (repeats_after l.schedule) l.round
