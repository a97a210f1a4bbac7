use Rattle.std.proofs.Common.{◌≡◌, ◌≤◌, ◌+◌, length}
use Rattle.league_csv.specs.League.{rounded_in_row}
use Rattle.league_csv.proofs.table.rounded_in_row.Given as goal

abbrev pub invariant-loop-rest : goal.invariant-loop-rest
invariant-loop-rest l = record {
  same : rounded_in_row l.row ≡ l.rounded + rounded_in_row l.rest;
  few : l.rounded + length l.rest ≤ length l.row;
}

abbrev pub decreases-loop-rest : goal.decreases-loop-rest
decreases-loop-rest l = length l.rest
