use Rattle.std.proofs.Common.{◌≡◌, ◌++◌, length}
use Rattle.report_page.specs.within.Pieces.{text_of_pieces}
use Rattle.report_page.proofs.pieces.push_pieces.Given as goal

abbrev pub invariant-loop-rest : goal.invariant-loop-rest
invariant-loop-rest l = l.initial.page.items ++ text_of_pieces l.pieces ≡ l.page.items ++ text_of_pieces l.rest

abbrev pub decreases-loop-rest : goal.decreases-loop-rest
decreases-loop-rest l = length l.rest
