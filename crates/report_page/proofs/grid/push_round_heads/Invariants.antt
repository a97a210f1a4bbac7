use Rattle.std.proofs.Common.{◌≡◌, ◌++◌}
use Rattle.byte_streams.specs.Pieces.{pieces_below}
use Rattle.report_page.specs.Grid.{round_head}
use Rattle.report_page.proofs.grid.push_round_heads.Given as goal

abbrev pub invariant-loop-round : goal.invariant-loop-round
invariant-loop-round l = l.page.items ≡ l.initial.page.items ++ pieces_below round_head l.round
