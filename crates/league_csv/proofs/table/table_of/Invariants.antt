use Rattle.std.proofs.Common.{◌≡◌, ◌≤◌, ◌+◌, length}
use Rattle.std.specs.Str.Lines.{lines}
use Rattle.league_csv.specs.Table.{table_from, table_of}
use Rattle.league_csv.proofs.table.table_of.Given as goal

abbrev pub invariant-loop-row : goal.invariant-loop-row
invariant-loop-row l = record {
  same : table_of l.text ≡ table_from (l.line + 1) (lines l.rest);
  few : l.line + length l.rest ≤ length l.text;
}

abbrev pub decreases-loop-row : goal.decreases-loop-row
decreases-loop-row l = length l.rest
