use Rattle.std.proofs.Common.{◌≡◌, ◌+◌, ◌≤◌, length}
use Rattle.std.specs.Str.Lines.{lines}
use Rattle.text_lines.specs.Input.{first_ending}
use Rattle.text_lines.proofs.input.line_ending_with.Given as goal

abbrev pub invariant-loop-line : goal.invariant-loop-line
invariant-loop-line l = (l.number + length l.rest ≤ length l.text) ×
    (first_ending l.ending 1 (lines l.text) ≡ first_ending l.ending (l.number + 1) (lines l.rest))

abbrev pub decreases-loop-line : goal.decreases-loop-line
decreases-loop-line l = length l.rest
