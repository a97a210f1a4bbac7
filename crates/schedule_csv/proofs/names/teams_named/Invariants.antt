use Rattle.std.proofs.Common.{◌≡◌}
use Rattle.schedule_csv.specs.Names.{named_below}
use Rattle.schedule_csv.proofs.names.teams_named.Given as goal

abbrev pub invariant-loop-team : goal.invariant-loop-team
invariant-loop-team l = l.named ≡ named_below l.league l.cell l.team
