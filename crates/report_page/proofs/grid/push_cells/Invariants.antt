use Rattle.std.proofs.Common.{◌≡◌, ◌++◌}
use Rattle.byte_streams.specs.Pieces.{pieces_below}
use Rattle.report_page.specs.Grid.{cell_text}
use Rattle.report_page.proofs.grid.push_cells.Given as goal

abbrev pub invariant-loop-round : goal.invariant-loop-round
invariant-loop-round l = l.page.items ≡ l.initial.page.items ++ pieces_below (cell_text l.league l.schedule l.team) l.round
