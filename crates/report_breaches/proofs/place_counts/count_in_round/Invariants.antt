use Rattle.std.proofs.Common.{◌≡◌, ◌≤◌}
use Rattle.league.specs.Sums.{count_where}
use Rattle.report_breaches.specs.Cells.{names_cell}
use Rattle.report_breaches.proofs.place_counts.count_in_round.Given as goal

abbrev pub invariant-loop-team : goal.invariant-loop-team
invariant-loop-team l = (l.count ≡ count_where l.team (λ t. names_cell l.schedule l.body l.place t l.round)) × (l.count ≤ l.team)
