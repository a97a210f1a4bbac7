use Rattle.std.proofs.Common.{◌≡◌}
use Rattle.report_json.specs.Parts.{parts_below}
use Rattle.report_json.specs.within.Parts.{seen}
use Rattle.report_json.specs.Sides.{runs_of}
use Rattle.report_json.proofs.run_values.runs_value.Given as goal

abbrev pub invariant-loop-team : goal.invariant-loop-team
invariant-loop-team l = seen l.runs.items ≡ parts_below (runs_of l.schedule l.at_most) l.team
