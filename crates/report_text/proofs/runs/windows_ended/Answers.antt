use Rattle.std.proofs.Common.{◌∙◌}
use Rattle.report_text.specs.Runs.{is_over}
use Rattle.report_text.proofs.Streaks.{streak_more}
use Rattle.report_text.proofs.runs.windows_ended.Goals as goal

pub loop-earlier-preserved : goal.loop-earlier-preserved
loop-earlier-preserved c =
    c.lengthened-streak.ensures ∙
    streak_more (is_over c.args.schedule.now c.args.at_most c.args.team) c.loop-earlier.earlier c.loop-earlier.streak c.has-in-loop-earlier.result
    (c.has-in-loop-earlier.ensures ∙ c.windows_spent-begun.ensures c.loop-earlier.earlier) c.loop-earlier.invariant
