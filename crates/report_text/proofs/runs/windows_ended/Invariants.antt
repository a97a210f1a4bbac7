use Rattle.std.proofs.Common.{◌≡◌}
use Rattle.report_text.specs.Runs.{is_over, streak}
use Rattle.report_text.proofs.runs.windows_ended.Given as goal

abbrev pub invariant-loop-earlier : goal.invariant-loop-earlier
invariant-loop-earlier l = l.streak ≡ streak (is_over l.schedule l.at_most l.team) l.earlier
