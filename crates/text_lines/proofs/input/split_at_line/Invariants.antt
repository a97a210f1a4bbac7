use Rattle.std.proofs.Common.{length}
use Rattle.text_lines.proofs.Splitting.{IsReadTo}
use Rattle.text_lines.proofs.input.split_at_line.Given as goal

abbrev pub invariant-loop-line : goal.invariant-loop-line
invariant-loop-line l = IsReadTo l.word l.input l.rest l.start

abbrev pub decreases-loop-line : goal.decreases-loop-line
decreases-loop-line l = length l.rest
