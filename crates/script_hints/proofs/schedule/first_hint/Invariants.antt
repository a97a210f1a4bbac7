-- The hint so far, with what the lines that are left have, is that of the whole text.
use Rattle.std.proofs.Common.{◌≡◌, ◌+◌, ◌≤◌, None, length}
use Rattle.std.specs.Str.Lines.{lines}
use Rattle.script_hints.proofs.Sheets.{hint_after}
use Rattle.script_hints.proofs.schedule.first_hint.Given as goal

abbrev pub invariant-loop-line : goal.invariant-loop-line
invariant-loop-line l = record {
  left : hint_after None 1 (lines l.text) ≡ hint_after l.hint (l.number + 1) (lines l.rest);
  few : l.number + length l.rest ≤ length l.text;
}

abbrev pub decreases-loop-line : goal.decreases-loop-line
decreases-loop-line l = length l.rest
