use Rattle.std.proofs.Common.{◌≡◌, ◌++◌, length}
use Rattle.report_page.specs.Pieces.{escaped}
use Rattle.report_page.proofs.pieces.push_escaped.Given as goal

abbrev pub invariant-loop-rest : goal.invariant-loop-rest
invariant-loop-rest l = l.initial.page.items ++ escaped l.text ≡ l.page.items ++ escaped l.rest

abbrev pub decreases-loop-rest : goal.decreases-loop-rest
decreases-loop-rest l = length l.rest
