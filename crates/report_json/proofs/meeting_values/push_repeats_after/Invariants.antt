use Rattle.std.proofs.Common.{◌≡◌, ◌++◌}
use Rattle.report_json.specs.Parts.{parts_below}
use Rattle.report_json.specs.within.Parts.{seen}
use Rattle.report_json.specs.Sides.{repeat_at}
use Rattle.report_json.proofs.meeting_values.push_repeats_after.Given as goal

abbrev pub invariant-loop-team : goal.invariant-loop-team
invariant-loop-team l = seen l.repeats.items ≡ seen l.initial.repeats.items ++ parts_below (repeat_at l.schedule l.round) l.team
