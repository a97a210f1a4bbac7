use Rattle.std.proofs.Common.{◌+◌, ◌≤◌, length}
use Rattle.std.specs.Str.Lines.{lines}
use Rattle.schedule_texts.proofs.Sheets.{IsSought}
use Rattle.schedule_texts.proofs.last_sheet.LastSheet.of.Given as goal

abbrev pub invariant-loop-line : goal.invariant-loop-line
invariant-loop-line l = record {
  sought : IsSought (lines l.text) l.number (lines l.rest) l.sheet.before (lines l.sheet.text.now);
  few : l.number + length l.rest ≤ length l.text;
  sheet_few : l.sheet.before + length l.sheet.text.now ≤ length l.text;
}

abbrev pub decreases-loop-line : goal.decreases-loop-line
decreases-loop-line l = length l.rest
