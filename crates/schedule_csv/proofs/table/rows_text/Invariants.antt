use Rattle.std.proofs.Common.{◌≡◌, ◌≤◌, ◌+◌, length}
use Rattle.std.specs.Str.Lines.{lines}
use Rattle.schedule_csv.specs.Table.{behind, rows_text}
use Rattle.schedule_csv.proofs.table.rows_text.Given as goal

abbrev pub invariant-loop-text : goal.invariant-loop-text
invariant-loop-text l = record {
  same : rows_text l.league l.head 2 0 (lines l.rows) ≡ behind l.sheet.items (rows_text l.league l.head (l.line + 1) l.before (lines l.rest));
  few : l.line + length l.rest ≤ length l.rows + 1;
  games : l.before + 1 ≤ l.line;
}

abbrev pub decreases-loop-text : goal.decreases-loop-text
decreases-loop-text l = length l.rest
