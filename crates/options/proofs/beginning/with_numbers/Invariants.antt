use Rattle.std.proofs.Common.{◌≡◌}
use Rattle.options.specs.Beginnings.{with_numbers}
use Rattle.options.proofs.beginning.with_numbers.Given as goal

abbrev pub invariant-loop-place : goal.invariant-loop-place
invariant-loop-place l = l.all ≡ with_numbers l.fn.rounds l.fn.first l.place
