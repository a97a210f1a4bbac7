use Rattle.std.proofs.Common.{◌≡◌, ◌++◌}
use Rattle.report_text.specs.Runs.{ended_streak, is_over}
use Rattle.report_json.specs.Parts.{parts_below}
use Rattle.report_json.specs.within.Parts.{seen}
use Rattle.report_json.specs.Sides.{run_at}
use Rattle.report_json.proofs.run_values.push_runs_of.Given as goal

abbrev pub invariant-loop-round : goal.invariant-loop-round
invariant-loop-round l = seen l.runs.items ≡ seen l.initial.runs.items ++
    parts_below (λ round. run_at l.schedule l.at_most l.team round (ended_streak (is_over l.schedule l.at_most l.team) round)) l.round
