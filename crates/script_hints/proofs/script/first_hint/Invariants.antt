-- No line so far has a cause.
use Rattle.std.proofs.Common.{◌≡◌, ◌+◌, ◌≤◌, length}
use Rattle.std.specs.Str.Lines.{lines}
use Rattle.script_hints.specs.Hints.{first_hint}
use Rattle.script_hints.specs.Script.{script_cause}
use Rattle.script_hints.proofs.script.first_hint.Given as goal

abbrev pub invariant-loop-line : goal.invariant-loop-line
invariant-loop-line l = record {
  first : first_hint script_cause 1 (lines l.script) ≡ first_hint script_cause (l.number + 1) (lines l.rest);
  few : l.number + length l.rest ≤ length l.script;
}

abbrev pub decreases-loop-line : goal.decreases-loop-line
decreases-loop-line l = length l.rest
