use Rattle.std.proofs.Common.{◌≡◌, ◌≤◌, ◌+◌, length}
use Rattle.std.specs.Str.Lines.{lines}
use Rattle.league.specs.Views.{texts}
use Rattle.league_csv.specs.Reading.{behind}
use Rattle.league_csv.specs.Rows.{rows_from}
use Rattle.league_csv.specs.within.Views.{rows}
use Rattle.league_csv.proofs.rows.rows_below.Given as goal

abbrev pub invariant-loop-text : goal.invariant-loop-text
invariant-loop-text l = record {
  same : rows_from l.head.separator l.head.in_column (texts l.head.names.now) (l.above + 1) 0 (lines l.below)
      ≡ behind (rows l.table.items)
      (rows_from l.head.separator l.head.in_column (texts l.head.names.now) (l.line + 1) l.team (lines l.rest));
  few : l.line + length l.rest ≤ l.above + length l.below;
  within : l.team ≤ length (texts l.head.names.now);
}

abbrev pub decreases-loop-text : goal.decreases-loop-text
decreases-loop-text l = length l.rest
