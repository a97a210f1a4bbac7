use Rattle.std.proofs.Common.{◌+◌, ◌≤◌, length}
use Rattle.std.specs.Str.Lines.{lines}
use Rattle.text_lines.proofs.ForCallers.{AddsAllBut}
use Rattle.schedule_texts.specs.Faults.{bad_lines}
use Rattle.schedule_texts.specs.LastSheet.{last_sheet}
use Rattle.schedule_texts.proofs.faults.write_bad_lines.Given as goal

abbrev pub invariant-loop-line : goal.invariant-loop-line
invariant-loop-line g l = record {
  written : AddsAllBut g.W.Sink.held g.W.Sink.tally l.initial.out l.out (bad_lines 1 (last_sheet (lines l.text))) (bad_lines l.number (lines l.rest));
  few : l.number + length l.rest ≤ 1 + length l.text;
}

abbrev pub decreases-loop-line : goal.decreases-loop-line
decreases-loop-line g l = length l.rest
