use Rattle.std.proofs.Common.{◌-◌}
use Rattle.rules.specs.within.TeamWindows.{rows_lack, IsInRows}
use Rattle.rules.proofs.team_windows.InRows.all.Given as goal

abbrev pub invariant-loop-round : goal.invariant-loop-round
invariant-loop-round l = IsInRows l.fn.teams (rows_lack l.rows l.first (l.round - l.first)) l.in_rows
